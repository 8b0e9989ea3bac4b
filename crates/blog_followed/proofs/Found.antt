-- Pairs whose real rows have some fingerprints, after changes.
use Rattle.std.proofs.Common.{◌≡◌, ℕ, ◌&&◌, Bool, true, false, List, [], ◌∷◌, ◌++◌, Option, Some, refl, sym, ap, ◌∙◌, subst, append-nil}
use Rattle.std.specs.Prelude.{nat_eq, option_map}
use Rattle.std.specs.List.{AllByRecursion, list_any}
use Rattle.std.proofs.lemmas.Bool.{and_from, and_parts, cond-false, cond-true, false≢true, or_left}
use Rattle.blog_later.specs.Prints.{HavePrints, prints_left}
use Rattle.blog_merge.specs.Merge.{merged, pairs_by_later, pairs_by_selected}
use Rattle.blog_merge.specs.Pairs.{Pair, in_table, is_of, put, real_row, unless_equal, without, would_be, would_row}
use Rattle.blog_merge.specs.Touching.{with_left}
use Rattle.blog_merge.proofs.Columns.{merged-own}
use Rattle.blog_row.specs.Image.{Row}
use Rattle.blog_row.specs.TableMap.{Table}
use Rattle.blog_trans.specs.Changes.{Change, Inserted, Deleted, Updated}
use Rattle.blog_undo.specs.ByRows.{has_print_among}
use Rattle.blog_undo.specs.Mixed.{TableRow, is_same_row, takes}
use Rattle.blog_undo.proofs.Rows.{is_row-Decides}
use Rattle.blog_followed.specs.Following.{HasPrints, are_followed}
use Rattle.blog_followed.proofs.Fingerprints.{has-with, own-print}

-- a pair's real row has one of the fingerprints
abbrev pub IsFound : (TableRow → ℕ) → List ℕ → Pair → Type 0
IsFound f prints p = list_any (nat_eq (f (real_row p))) prints ≡ true

abbrev pub AreFound : (TableRow → ℕ) → List ℕ → List Pair → Type 0
AreFound f prints ps = AllByRecursion (IsFound f prints) ps

pub found-followed : (f : TableRow → ℕ) (prints : List ℕ) (ps : List Pair) → AreFound f prints ps → are_followed f prints ps ≡ true
found-followed f prints [] are = refl
found-followed f prints (p ∷ ps) are = and_from _ _ are.0 (found-followed f prints ps are.1)

pub followed-found : (f : TableRow → ℕ) (prints : List ℕ) (ps : List Pair) → are_followed f prints ps ≡ true → AreFound f prints ps
followed-found f prints [] are = tt
followed-found f prints (p ∷ ps) are =
    let parts = and_parts (list_any (nat_eq (f (real_row p))) prints) (are_followed f prints ps) are in (parts.0, followed-found f prints ps parts.1)

pub followed-alike : (f : TableRow → ℕ) (prints kept : List ℕ) (ps : List Pair) → HavePrints prints kept → are_followed f kept ps ≡ are_followed f prints ps
followed-alike f prints kept [] are = refl
followed-alike f prints kept (p ∷ ps) are =
    ap (λ b. b && are_followed f kept ps) (are (f (real_row p))) ∙ ap (λ b. list_any (nat_eq (f (real_row p))) prints && b) (followed-alike f prints kept ps are)

-- they are found among more, too
pub found-more : (f : TableRow → ℕ) (prints more : List ℕ) (ps : List Pair) → HasPrints more prints → AreFound f prints ps → AreFound f more ps
found-more f prints more [] has are = tt
found-more f prints more (p ∷ ps) has are = (has (f (real_row p)) are.0, found-more f prints more ps has are.1)

-- ---- what becomes of the pairs

all-append : (P : Pair → Type 0) (ps qs : List Pair) → AllByRecursion P ps → AllByRecursion P qs → AllByRecursion P (ps ++ qs)
all-append P [] qs are more = more
all-append P (p ∷ ps) qs are more = (are.0, all-append P ps qs are.1 more)

all-unless : (P : Pair → Type 0) (new : Pair) → P new → AllByRecursion P (unless_equal new)
all-unless P new is = by_case (is_same_row (would_row new) (Some (real_row new))) refl
  where
    by_case : (b : Bool) → is_same_row (would_row new) (Some (real_row new)) ≡ b → AllByRecursion P (unless_equal new)
    by_case true e = subst (AllByRecursion P) (sym (cond-true _ [] (new ∷ []) e)) tt
    by_case false e = subst (AllByRecursion P) (sym (cond-false _ [] (new ∷ []) e)) (is, tt)

all-put : (P : Pair → Type 0) (t : Table) (r : Row) (new : Pair) (ps : List Pair) → P new → AllByRecursion P ps → AllByRecursion P (put t r new ps)
all-put P t r new [] is are = all-unless P new is
all-put P t r new (p ∷ ps) is are = by_case (is_of t r p) refl (all-put P t r new ps is are.1)
  where
    by_case : (b : Bool) → is_of t r p ≡ b → AllByRecursion P (put t r new ps) → AllByRecursion P (put t r new (p ∷ ps))
    by_case true e later = subst (AllByRecursion P) (sym (cond-true (is_of t r p) (unless_equal new ++ ps) (p ∷ put t r new ps) e)) (all-append P (unless_equal new) ps (all-unless P new is) are.1)
    by_case false e later = subst (AllByRecursion P) (sym (cond-false (is_of t r p) (unless_equal new ++ ps) (p ∷ put t r new ps) e)) (are.0, later)

all-without : (P : Pair → Type 0) (t : Table) (r : Row) (ps : List Pair) → AllByRecursion P ps → AllByRecursion P (without t r ps)
all-without P t r [] are = tt
all-without P t r (p ∷ ps) are = by_case (is_of t r p) refl (all-without P t r ps are.1)
  where
    by_case : (b : Bool) → is_of t r p ≡ b → AllByRecursion P (without t r ps) → AllByRecursion P (without t r (p ∷ ps))
    by_case true e later = subst (AllByRecursion P) (sym (cond-true (is_of t r p) ps (p ∷ without t r ps) e)) are.1
    by_case false e later = subst (AllByRecursion P) (sym (cond-false (is_of t r p) ps (p ∷ without t r ps) e)) (are.0, later)

own-first : (f : TableRow → ℕ) (r : TableRow) (prints : List ℕ) → list_any (nat_eq (f r)) (f r ∷ prints) ≡ true
own-first f r prints = or_left (nat_eq (f r) (f r)) (list_any (nat_eq (f r)) prints) (own-print (f r))

-- after a selected change whose row is among them
pub selected-found : (f : TableRow → ℕ) (prints : List ℕ) (c : Change) (cs : List Change) (ps : List Pair) → HasPrints prints (prints_left f (c ∷ cs)) → AreFound f prints ps → AreFound f prints (pairs_by_selected c ps)
selected-found f prints (Inserted t r) cs ps has are =
    all-append (IsFound f prints) ps _ are (has (f (in_table t r)) (own-first f (in_table t r) (prints_left f cs)), tt)
selected-found f prints (Deleted t r) cs ps has are = are
selected-found f prints (Updated t r new) cs ps has are =
    all-put (IsFound f prints) t r (record { table = t; real = new; would = would_be t r ps }) ps (has (f (in_table t new)) (own-first f (in_table t new) (prints_left f cs))) are

-- after a change of others, with the row that it leaves
pub later-found : (f : TableRow → ℕ) (prints : List ℕ) (c : Change) (ps : List Pair) → AreFound f prints ps → AreFound f (with_left f c prints) (pairs_by_later c ps)
later-found f prints (Inserted t r) ps are = found-more f prints (with_left f (Inserted t r) prints) ps (has-with f prints (Inserted t r)) are
later-found f prints (Deleted t r) ps are = all-without (IsFound f prints) t r ps are
later-found f prints (Updated t r new) ps are =
    all-put (IsFound f (f (in_table t new) ∷ prints)) t r (record { table = t; real = new; would = option_map (merged r new) (would_be t r ps) }) ps
    (own-first f (in_table t new) prints) (found-more f prints (with_left f (Updated t r new) prints) ps (has-with f prints (Updated t r new)) are)

-- ---- a row whose fingerprint isn't found

record HasNoPair (t : Table) (r : Row) (ps : List Pair) : Type 0 where
  would : would_be t r ps ≡ Some r
  gone : without t r ps ≡ ps
  puts : (new : Pair) → put t r new ps ≡ ps ++ unless_equal new

no-pair : (f : TableRow → ℕ) (prints : List ℕ) (t : Table) (r : Row) (ps : List Pair) → AreFound f prints ps → has_print_among f (Some (in_table t r)) prints ≡ false → HasNoPair t r ps
no-pair f prints t r [] are none = record { would = refl; gone = refl; puts = λ new. refl }
no-pair f prints t r (p ∷ ps) are none = by_case (is_of t r p) refl (no-pair f prints t r ps are.1 none)
  where
    by_case : (b : Bool) → is_of t r p ≡ b → HasNoPair t r ps → HasNoPair t r (p ∷ ps)
    by_case true e later =
        let (in_t, is_r) = (is_row-Decides t r p.table p.real).0 e in
        absurd (false≢true (sym none ∙ ap (λ u. has_print_among f (Some (in_table u r)) prints) in_t ∙ ap (λ s. has_print_among f (Some (in_table p.table s)) prints) is_r ∙ are.0))
    by_case false e later = record {
      would = cond-false (is_of t r p) p.would (would_be t r ps) e ∙ later.would;
      gone = cond-false (is_of t r p) ps (p ∷ without t r ps) e ∙ ap (λ qs. p ∷ qs) later.gone;
      puts = λ new. cond-false (is_of t r p) (unless_equal new ++ ps) (p ∷ put t r new ps) e ∙ ap (λ qs. p ∷ qs) (later.puts new);
    }

-- a change of others that takes such a row leaves the pairs
pub untouched-pairs : (f : TableRow → ℕ) (prints : List ℕ) (c : Change) (ps : List Pair) → AreFound f prints ps → has_print_among f (takes c) prints ≡ false → pairs_by_later c ps ≡ ps
untouched-pairs f prints (Inserted t r) ps are none = refl
untouched-pairs f prints (Deleted t r) ps are none = (no-pair f prints t r ps are none).gone
untouched-pairs f prints (Updated t r new) ps are none =
    let h = no-pair f prints t r ps are none in
    let own : option_map (merged r new) (would_be t r ps) ≡ Some new = ap (option_map (merged r new)) h.would ∙ ap Some (merged-own r new) in
    let equal : unless_equal (record { table = t; real = new; would = Some new }) ≡ [] = cond-true (is_same_row (Some (in_table t new)) (Some (in_table t new))) [] _ ((is_row-Decides t new t new).1 (refl, refl)) in
    ap (λ (would : Option Row). put t r (record { table = t; real = new; would = would }) ps) own
    ∙ h.puts (record { table = t; real = new; would = Some new }) ∙ ap (λ qs. ps ++ qs) equal ∙ append-nil ps
