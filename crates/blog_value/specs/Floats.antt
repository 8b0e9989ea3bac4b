-- The values of FLOAT and DOUBLE columns (MySQL Reference Manual, "Floating-Point Types"; IEEE 754), the lowest byte first.
use Rattle.std.specs.Prelude.{◌≡◌, ℕ, ◌-◌, ◌++◌, if◌then◌else◌, List, length, take, drop, Option, Some, None, option_and_then, from_bits, bytes_eq, codes}
use Rattle.std.specs.Float.{binary32, binary64, float_is_finite}
use Rattle.std.specs.Float.Ieee.{Float, Format}
use Rattle.fast_float.specs.Parse.{parse_float}
use Rattle.blog_value.specs.Integers.{unsigned_of}

-- a number; there is no infinity in a column, and nothing that is no number
abbrev pub finite_from : Format → ℕ → Option Float
finite_from format bits = if float_is_finite (from_bits format bits) then Some (from_bits format bits) else None

unfoldable pub float_of : List ℕ → Option Float
float_of bytes = option_and_then (finite_from binary32) (unsigned_of 4 bytes)

unfoldable pub double_of : List ℕ → Option Float
double_of bytes = option_and_then (finite_from binary64) (unsigned_of 8 bytes)

-- a text without `.0` at its end
abbrev pub without_point : List ℕ → List ℕ
without_point text = if bytes_eq (drop (length text - 2) text) (codes ".0") then take (length text - 2) text else text

-- a text that reads back as the number is appended, without such an end
abbrev pub AppendsFloat : Format → Float → List ℕ → List ℕ → Type 0
AppendsFloat format x old new = (text : List ℕ) × (parse_float format text ≡ Some x) × (new ≡ old ++ without_point text)
