-- The trailing one bits of a byte, by its 256 values.
use Rattle.std.proofs.Common.{◌≡◌, ℕ, zero, suc, ◌+◌, ◌-◌, ◌%◌, ◌^◌, ◌<◌, ◌⊎◌, inl, inr, Bool, ◌&&◌, ◌||◌, true, false, T, eqb, subst, refl, arith, eqb→eq, eq-eqb}
use Rattle.std.proofs.lemmas.Bool.Decides.{nat_tests}
use Rattle.std.specs.Prelude.{nat_lt, not}
use Rattle.std.proofs.lemmas.Bool.{cases_lt}
use lib.Ieee.Fits.{and_l, and_r}
use Rattle.std.specs.Int.Count.{count_trailing_zeros}
use Rattle.blog_gtid.specs.Integers.{following}

-- each number below this one passes
abbrev all_below : (ℕ → Bool) → ℕ → Bool
all_below test zero = true
all_below test (suc n) = test n && all_below test n

passes : (test : ℕ → Bool) (n : ℕ) → T (all_below test n) → (k : ℕ) → k < n → T (test k)
passes test zero t k h = absurd (omega arith)
passes test (suc n) t k h = elim (cases_lt k n) [
  | inl below ↦ passes test n (and_r (test n) (all_below test n) t) k below
  | inr not_below ↦ let same : n ≡ k = omega arith in subst (λ m. T (test m)) same (and_l (test n) (all_below test n) t)
]

-- a byte ends in n one bits behind a zero bit
abbrev ends_in : ℕ → ℕ → Bool
ends_in byte n = eqb (byte % 2 ^ (n + 1)) (2 ^ n - 1)

-- its trailing ones are n, if it ends in n one bits behind a zero bit
abbrev is_counted : ℕ → ℕ → Bool
is_counted byte n = not (ends_in byte n) || eqb (following byte) n

-- it ends in its trailing ones, or has no zero bit
abbrev is_ended : ℕ → ℕ → Bool
is_ended byte n = (eqb n 8 && eqb byte 255) || (nat_lt n 8 && ends_in byte n)

-- computed over all bytes
all-counted : T (all_below (λ byte. all_below (is_counted byte) 8) 256)
unfolding following count_trailing_zeros
all-counted = tt

all-ended : T (all_below (λ byte. is_ended byte (following byte)) 256)
unfolding following count_trailing_zeros
all-ended = tt

-- ---- what the tests say

is-true : (b : Bool) → T b → b ≡ true
is-true true t = refl
is-true false t = absurd t

one-of : (a b : Bool) → T (a || b) → T a ⊎ T b
one-of true b t = inl tt
one-of false b t = inr t

-- a byte that ends in n one bits behind a zero bit has n trailing ones
pub counted : (byte n : ℕ) → byte < 256 → n < 8 → byte % 2 ^ (n + 1) ≡ 2 ^ n - 1 → following byte ≡ n
counted byte n fits few ends =
    let t : T (is_counted byte n) = passes (is_counted byte) 8 (passes (λ byte. all_below (is_counted byte) 8) 256 all-counted byte fits) n few in
    let test : ends_in byte n ≡ true = eq-eqb (byte % 2 ^ (n + 1)) (2 ^ n - 1) ends in
    eqb→eq (following byte) n (rw test at t)

-- a byte is 255, or ends in its trailing ones behind a zero bit
pub ended : (byte : ℕ) → byte < 256
    → ((following byte ≡ 8) × (byte ≡ 255)) ⊎ ((following byte < 8) × (byte % 2 ^ (following byte + 1) ≡ 2 ^ following byte - 1))
ended byte fits =
    let t : T (is_ended byte (following byte)) = passes (λ byte. is_ended byte (following byte)) 256 all-ended byte fits in
    elim (one-of (eqb (following byte) 8 && eqb byte 255) (nat_lt (following byte) 8 && ends_in byte (following byte)) t) [
      | inl h ↦ inl (eqb→eq (following byte) 8 (and_l (eqb (following byte) 8) (eqb byte 255) h), eqb→eq byte 255 (and_r (eqb (following byte) 8) (eqb byte 255) h))
      | inr h ↦
          let few : nat_lt (following byte) 8 ≡ true = is-true (nat_lt (following byte) 8) (and_l (nat_lt (following byte) 8) (ends_in byte (following byte)) h) in
          let below : following byte < 8 = grind (arith, nat_tests) in
          inr (below, eqb→eq (byte % 2 ^ (following byte + 1)) (2 ^ following byte - 1) (and_r (nat_lt (following byte) 8) (ends_in byte (following byte)) h))
    ]

-- eight one bits
pub ones-of-255 : following 255 ≡ 8
unfolding following count_trailing_zeros
ones-of-255 = refl
