-- Integers of variable length (MySQL source code documentation, "mysql::serialization").
use Rattle.std.specs.Prelude.{◌≡◌, ◌↔◌, ◌<◌, ◌≤◌, ℕ, zero, suc, ◌+◌, ◌-◌, ◌*◌, ◌/◌, ◌%◌, ◌^◌, ◌==◌, nat_lt, nat_le, if◌then◌else◌, List, [], ◌∷◌, ◌++◌, length, drop, Option, Some, None}
use Rattle.std.specs.Int.{w8, trailing_ones}
use Rattle.byteorder.specs.Endian.{little_bytes, little_number}
use Rattle.blog_event.specs.Format.{◌>>=◌}

-- ---- what an integer is

-- v in n + 1 bytes: from the lowest bit on n one bits, a zero bit, and v; or, for n = 8, eight one bits and v
unfoldable pub spelled : ℕ → ℕ → List ℕ
spelled n v = if n == 8 then 255 ∷ little_bytes 8 v else little_bytes (n + 1) (v * 2 ^ (n + 1) + (2 ^ n - 1))

-- how many bits v has at most
abbrev pub most_bits : ℕ → ℕ
most_bits n = if n == 8 then 64 else 7 * (n + 1)

-- the bytes are v, not always as shortly as they could
pub record IsInteger (bytes : List ℕ) (v : ℕ) : Type 0 where
  pub more : ℕ
  pub few : more ≤ 8
  pub fits : v < 2 ^ most_bits more
  pub is : bytes ≡ spelled more v

-- bytes begin with these integers, one after the other, and the rest is after them
abbrev pub BeginWith : List ℕ → List ℕ → List ℕ → Type 0
BeginWith [] rest bytes = bytes ≡ rest
BeginWith (v ∷ vs) rest bytes = (first : List ℕ) × (others : List ℕ) × IsInteger first v × (bytes ≡ first ++ others) × BeginWith vs rest others

-- ---- reading one

-- how many bytes follow the first: as many as it has trailing one bits
unfoldable pub following : ℕ → ℕ
following first = trailing_ones w8 first

-- the value in the first byte and the n that follow: their number, without the n one bits and the zero bit after them;
-- after eight one bits the number of the eight bytes that follow
unfoldable pub value_in : ℕ → List ℕ → ℕ
value_in n bytes = if n == 8 then little_number 8 (drop 1 bytes) else little_number (n + 1) bytes / 2 ^ (n + 1)

-- the integer at the front, and the bytes after it
unfoldable pub integer_front : List ℕ → Option (ℕ × List ℕ)
integer_front [] = None
integer_front (first ∷ bytes) =
    let n = following first in
    if nat_le n (length bytes) then Some (value_in n (first ∷ bytes), drop n bytes) else None

-- it is read exactly where one stands at the front
abbrev pub ReadsInteger : List ℕ → ℕ → List ℕ → Type 0
ReadsInteger bytes v rest = (integer_front bytes ≡ Some (v, rest)) ↔ ((first : List ℕ) × IsInteger first v × (bytes ≡ first ++ rest))

-- ---- what is made of integers

-- an integer below 256
unfoldable pub byte_front : List ℕ → Option (ℕ × List ℕ)
byte_front bytes = do
  value ← integer_front bytes
  if nat_lt value.0 256 then Some value else None

-- this many integers below 256
unfoldable pub bytes_front : ℕ → List ℕ → Option (List ℕ × List ℕ)
bytes_front zero bytes = Some ([], bytes)
bytes_front (suc n) bytes = do
  first ← byte_front bytes
  others ← bytes_front n first.1
  Some (first.0 ∷ others.0, others.1)

-- a signed integer that isn't negative: v is written as 2 * v, and a negative number as an odd one
unfoldable pub signed_front : List ℕ → Option (ℕ × List ℕ)
signed_front bytes = do
  value ← integer_front bytes
  if value.0 % 2 == 0 then Some (value.0 / 2, value.1) else None
