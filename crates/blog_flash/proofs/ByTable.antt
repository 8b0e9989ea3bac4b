-- Hexadecimal digits in upper case, from a table of those of each byte.
use Rattle.std.proofs.Common.{◌≡◌, ℕ, zero, suc, ◌+◌, ◌-◌, ◌*◌, ◌/◌, ◌%◌, ◌<◌, Bool, true, ◌&&◌, T, eqb, get_or, slice_index, eqb→eq, eq-zero-or-pos, inl, inr, arith}
use Rattle.hex.specs.Hex.{upper_digits}
use Rattle.blog_flash.specs.declared.digits.TheConstants.{DIGITS}
use lib.Ieee.Fits.{and_l, and_r}

-- the test of the first n bytes, which computes
abbrev are_digits : ℕ → Bool
are_digits zero = true
are_digits (suc b) = (eqb (get_or DIGITS (2 * b) 0) (slice_index upper_digits (b / 16)) && eqb (get_or DIGITS (2 * b + 1) 0) (slice_index upper_digits (b % 16))) && are_digits b

abbrev AreDigits : ℕ → Type 0
AreDigits b = (get_or DIGITS (2 * b) 0 ≡ slice_index upper_digits (b / 16)) × (get_or DIGITS (2 * b + 1) 0 ≡ slice_index upper_digits (b % 16))

below : (n b : ℕ) → T (are_digits n) → b < n → AreDigits b
below zero b t h = absurd (omega arith)
below (suc n) b t h =
    elim (eq-zero-or-pos (n - b)) [
      | inl z ↦ let e : b ≡ n = omega arith in let a = and_l _ (are_digits n) t in rw e (eqb→eq _ _ (and_l _ _ a), eqb→eq _ _ (and_r _ _ a))
      | inr g ↦ below n b (and_r _ (are_digits n) t) (omega arith)
    ]

pub digits-at : (b : ℕ) → b < 256 → AreDigits b
digits-at b h = below 256 b tt h
