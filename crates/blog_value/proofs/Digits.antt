-- Numbers in a fixed number of digits, written from the last one on.
use Rattle.std.proofs.Common.{◌≡◌, ℕ, suc, ◌+◌, ◌-◌, ◌/◌, ◌%◌, ◌<◌, List, [], ◌∷◌, ◌++◌, length, take, drop, set, ap, sym, ◌∙◌, append_assoc}
use Rattle.std.proofs.lemmas.List.{drop-set, take_rest}
use Rattle.blog_value.specs.Digits.{in_digits}

-- one more digit is written in front of those behind it
pub one-written : (base k i left : ℕ) (digits all : List ℕ) → i < length digits → in_digits base (suc k) left ++ drop (i + 1) digits ≡ all
    → in_digits base k (left / base) ++ drop i (set digits i (48 + left % base)) ≡ all
unfolding in_digits
one-written base k i left digits all within so_far =
    ap (λ (rest : List ℕ). in_digits base k (left / base) ++ rest) (drop-set digits i (48 + left % base) within)
    ∙ sym (append_assoc (in_digits base k (left / base)) ((48 + left % base) ∷ []) (drop (i + 1) digits)) ∙ so_far

-- no digit is left
pub all-written : (base left : ℕ) (rest all : List ℕ) → in_digits base 0 left ++ rest ≡ all → rest ≡ all
unfolding in_digits
all-written base left rest all so_far = so_far

-- what is behind a place, to the end
pub to-end : (xs : List ℕ) (n at : ℕ) → length xs ≡ n → take (n - at) (drop at xs) ≡ drop at xs
to-end xs n at long = ap (λ (m : ℕ). take (m - at) (drop at xs)) (sym long) ∙ take_rest xs at
