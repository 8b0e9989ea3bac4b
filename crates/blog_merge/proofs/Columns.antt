-- An update that is made to another row, column by column.
use Rattle.std.proofs.Common.{◌≡◌, ℕ, zero, suc, Bool, true, false, cond, List, [], ◌∷◌, Option, Some, None, length, refl, sym, ap, ◌∙◌}
use Rattle.std.specs.Prelude.{slice_get}
use Rattle.std.proofs.lemmas.Bool.{cond-false, cond-true, false≢true}
use Rattle.std.proofs.lemmas.Option.{none-some, same_Some}
use Rattle.std.proofs.lemmas.Slice.Eq.{bytes_eq-Decides}
use Rattle.blog_row.specs.Image.{Row}
use Rattle.blog_flash.specs.States.{is_same_value}
use Rattle.blog_merge.specs.Laws.{IsMergedRow}
use Rattle.blog_merge.specs.Merge.{merged}

-- ---- the row itself

same-value : (x y : Option (List ℕ)) → is_same_value x y ≡ true → x ≡ y
same-value None None e = refl
same-value None (Some y) e = absurd (false≢true e)
same-value (Some x) None e = absurd (false≢true e)
same-value (Some x) (Some y) e = ap Some ((bytes_eq-Decides x y).0 e)

pub equal-value : (x : Option (List ℕ)) → is_same_value x x ≡ true
equal-value None = refl
equal-value (Some x) = (bytes_eq-Decides x x).1 refl

own-value : (a b : Option (List ℕ)) → cond (is_same_value a b) a b ≡ b
own-value a b = by_case (is_same_value a b) refl
  where
    by_case : (t : Bool) → is_same_value a b ≡ t → cond (is_same_value a b) a b ≡ b
    by_case true is = cond-true (is_same_value a b) a b is ∙ same-value a b is
    by_case false is = cond-false (is_same_value a b) a b is

pub merged-own : (before after : Row) → merged before after before ≡ after
merged-own [] after = refl
merged-own (a ∷ before) [] = refl
merged-own (a ∷ before) (b ∷ after) = ap (λ v. v ∷ merged before after before) (own-value a b) ∙ ap (λ vs. b ∷ vs) (merged-own before after)

-- ---- another row

merged-length : (before after other : Row) → length (merged before after other) ≡ length after
merged-length [] after other = refl
merged-length (a ∷ before) [] other = refl
merged-length (a ∷ before) (b ∷ after) [] = refl
merged-length (a ∷ before) (b ∷ after) (c ∷ other) = ap suc (merged-length before after other)

pub merged-value : (before after other : Row) (i : ℕ) (a b c : Option (List ℕ)) → slice_get before i ≡ Some a → slice_get after i ≡ Some b → slice_get other i ≡ Some c
    → slice_get (merged before after other) i ≡ Some (cond (is_same_value a b) c b)
merged-value [] after other i a b c e f g = absurd (none-some a e)
merged-value (x ∷ before) [] other i a b c e f g = absurd (none-some b f)
merged-value (x ∷ before) (y ∷ after) [] i a b c e f g = absurd (none-some c g)
merged-value (x ∷ before) (y ∷ after) (z ∷ other) zero a b c e f g = λ k. Some (cond (is_same_value (same_Some x a e k) (same_Some y b f k)) (same_Some z c g k) (same_Some y b f k))
merged-value (x ∷ before) (y ∷ after) (z ∷ other) (suc i) a b c e f g = merged-value before after other i a b c e f g

merged-new : (before after other : Row) (i : ℕ) → slice_get before i ≡ None → slice_get (merged before after other) i ≡ slice_get after i
merged-new [] after other i e = refl
merged-new (x ∷ before) [] other i e = refl
merged-new (x ∷ before) (y ∷ after) [] i e = refl
merged-new (x ∷ before) (y ∷ after) (z ∷ other) zero e = absurd (none-some x (sym e))
merged-new (x ∷ before) (y ∷ after) (z ∷ other) (suc i) e = merged-new before after other i e

merged-missing : (before after other : Row) (i : ℕ) → slice_get other i ≡ None → slice_get (merged before after other) i ≡ slice_get after i
merged-missing [] after other i e = refl
merged-missing (x ∷ before) [] other i e = refl
merged-missing (x ∷ before) (y ∷ after) [] i e = refl
merged-missing (x ∷ before) (y ∷ after) (z ∷ other) zero e = absurd (none-some z (sym e))
merged-missing (x ∷ before) (y ∷ after) (z ∷ other) (suc i) e = merged-missing before after other i e

pub merged-row : (before after other : Row) → IsMergedRow before after other (merged before after other)
merged-row before after other = record { columns = merged-length before after other; value = merged-value before after other; new = merged-new before after other; missing = merged-missing before after other }
