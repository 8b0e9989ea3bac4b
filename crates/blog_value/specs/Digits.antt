-- Numbers in a fixed number of digits.
use Rattle.std.specs.Prelude.{ℕ, zero, suc, ◌+◌, ◌/◌, ◌%◌, List, [], ◌∷◌, ◌++◌}

-- the lowest digits of n in a base of at most ten, that many of them, the highest first
unfoldable pub in_digits : ℕ → ℕ → ℕ → List ℕ
in_digits base zero n = []
in_digits base (suc width) n = in_digits base width (n / base) ++ ((48 + n % base) ∷ [])

-- n in that many decimal digits, zeros in front
abbrev pub padded : ℕ → ℕ → List ℕ
padded width n = in_digits 10 width n
