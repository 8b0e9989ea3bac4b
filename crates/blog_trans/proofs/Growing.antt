-- One more table among the selected ones changes no number of the others.
use Rattle.std.proofs.Common.{◌≡◌, ℕ, suc, ◌≤◌, ◌+◌, List, [], ◌∷◌, ◌++◌, map, length, slice_get, Option, Some, refl, ap, arith, length-append}
use Rattle.std.specs.List.{position_or_len}
use Rattle.std.proofs.lemmas.Map.Keys.{IsDistinct-push}
use Rattle.blog_row.specs.TableMap.{Table}
use Rattle.blog_trans.specs.declared.counts.Counts.{Counts}
use Rattle.blog_trans.specs.Acceptance.{is_same_table}
use Rattle.blog_trans.specs.Changes.{Change}
use Rattle.blog_trans.specs.code.CountsView.{AreCounts}
use Rattle.blog_trans.specs.code.TablesView.{HaveGrown}
use Rattle.blog_trans.proofs.Tables.{table-laws}
use Rattle.blog_trans.proofs.EntriesFound.{get_front}

-- what stands one place behind the first stands there without it
pub get-behind : {X : Type 0} (x : X) (xs : List X) (n : ℕ) → slice_get (x ∷ xs) (1 + n) ≡ slice_get xs n
get-behind x xs n = let next : 1 + n ≡ suc n = omega arith in ap (slice_get (x ∷ xs)) next

-- numbers that are found stay so
found-again : {X : Type 0} (f g : ℕ → Option X) → ((n : ℕ) (x : X) → f n ≡ Some x → g n ≡ Some x) → (ns : List ℕ) (xs : List X) → map f ns ≡ map Some xs → map g ns ≡ map Some xs
found-again f g goes [] [] are = refl
found-again f g goes [] (x ∷ xs) are = absurd (cc)
found-again f g goes (n ∷ ns) [] are = absurd (cc)
found-again f g goes (n ∷ ns) (x ∷ xs) are = grind (arith, found-again f g goes ns xs (cc))

-- no element stands at the number of a table that isn't among them, nor at that of the added one
same-row : {X : Type 0} (rows : List X) (tables : List Table) (t u : Table) → length rows ≤ length tables
    → slice_get rows (position_or_len (is_same_table u) (tables ++ t ∷ [])) ≡ slice_get rows (position_or_len (is_same_table u) tables)
same-row [] tables t u few = refl
same-row (x ∷ rows) [] t u few = absurd (omega arith)
same-row (x ∷ rows) (v ∷ tables) t u few = let later = same-row rows tables t u (omega arith) in let next = get-behind x rows in grind arith

pub counts-grown : {A : Type 0} (before after : List Table) (cs : List Change) (ts : List Table) (counts : Counts A) → HaveGrown before after
    → AreCounts before cs ts counts → AreCounts after cs ts counts
counts-grown before after cs ts counts grown are = grind (arith, same-row, found-again, get_front, length-append, IsDistinct-push, table-laws)
