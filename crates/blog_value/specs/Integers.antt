-- The values of integer columns: TINYINT, SMALLINT, MEDIUMINT, INT and BIGINT in 1, 2, 3, 4 and 8 bytes, the lowest byte
-- first (MySQL Reference Manual, "Integer Types").
use Rattle.std.specs.Prelude.{ℕ, ℤ, ◌==◌, ◌&&◌, nat_le, Bool, if◌then◌else◌, List, length, Option, Some, None}
use Rattle.byteorder.specs.Endian.{big_number, little_number, twos_complement}

-- exactly that many bytes, one to eight
abbrev pub is_width : ℕ → List ℕ → Bool
is_width width bytes = nat_le 1 width && (nat_le width 8 && length bytes == width)

-- a number in that many bytes, the lowest first
unfoldable pub unsigned_of : ℕ → List ℕ → Option ℕ
unsigned_of width bytes = if is_width width bytes then Some (little_number width bytes) else None

-- the same bytes as two's complement
unfoldable pub signed_of : ℕ → List ℕ → Option ℤ
signed_of width bytes = if is_width width bytes then Some (twos_complement width (little_number width bytes)) else None

-- a number in that many bytes, the highest first
unfoldable pub big_of : ℕ → List ℕ → Option ℕ
big_of width bytes = if is_width width bytes then Some (big_number width bytes) else None
