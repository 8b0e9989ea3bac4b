-- Parts of groups by their number.
use Rattle.std.proofs.Common.{◌≡◌, ℕ, zero, suc, ◌<◌, List, [], ◌∷◌, length, Option, Some, None, IsSome, option_map, refl, arith}
use Rattle.std.specs.Prelude.{slice_get, option_and_then}
use Rattle.std.proofs.lemmas.Option.{none-some, same_Some}

-- by a number within, something is there
pub some-over : {A X : Type 0} (f : A → List X) (o : Option A) (n i : ℕ) → option_map (λ a. length (f a)) o ≡ Some n → i < n → IsSome (option_and_then (λ a. slice_get (f a) i) o)
some-over f None n i len within = absurd (none-some n len)
some-over f (Some a) n i len within = by_list (f a) i (let same = same_Some (length (f a)) n len in omega arith)
  where
    by_list : {X : Type 0} (xs : List X) (i : ℕ) → i < length xs → IsSome (slice_get xs i)
    by_list [] i within = absurd (omega arith)
    by_list (x ∷ xs) zero within = refl
    by_list (x ∷ xs) (suc i) within = by_list xs i (omega arith)
