-- The values of DECIMAL columns (MySQL Reference Manual, "DECIMAL Data Type Characteristics"; decimal2bin in MySQL's sources,
-- strings/decimal.cc).
use Rattle.std.specs.Prelude.{ℕ, zero, suc, ◌+◌, ◌-◌, ◌*◌, ◌/◌, ◌%◌, ◌^◌, ◌==◌, ◌&&◌, nat_le, nat_lt, Bool, if◌then◌else◌, min, List, [], ◌∷◌, ◌++◌, length, drop, map, slice_index, Option, Some, None}
use Rattle.std.specs.List.{list_all, range_with_len}
use Rattle.byteorder.specs.Endian.{big_number}
use Rattle.blog_value.specs.Digits.{padded}

-- the value of a column with that many digits, `scale` of them behind the point, and its bytes as they are stored
pub record DecimalValue : Type 0 where
  pub precision : ℕ
  pub scale : ℕ
  pub bytes : List ℕ

-- ---- bytes

-- a group of up to nine digits: a byte for two of them, at most four bytes
abbrev pub group_width : ℕ → ℕ
group_width digits = min ((digits + 1) / 2) 4

-- the digits on one side of the point: groups of nine, and one of what is left over, farthest from the point
abbrev pub part_width : ℕ → ℕ
part_width digits = 4 * (digits / 9) + group_width (digits % 9)

-- the first bit of a negative value isn't set
abbrev pub is_negative : List ℕ → Bool
is_negative bytes = nat_lt (slice_index bytes 0) 128

-- without a sign: the first bit is flipped, and in a negative value all bits are
unfoldable pub plain_bytes : List ℕ → List ℕ
plain_bytes [] = []
plain_bytes (first ∷ others) = if nat_lt first 128 then (127 - first) ∷ map (λ byte. 255 - byte) others else (first - 128) ∷ others

-- ---- digits

-- the number of a group of that many digits at a place, the highest byte first
unfoldable pub group_at : ℕ → ℕ → List ℕ → ℕ
group_at digits place bytes = big_number (group_width digits) (drop place bytes)

-- that many groups of nine digits from a place on
unfoldable pub nines : ℕ → ℕ → List ℕ → List ℕ
nines zero place bytes = []
nines (suc count) place bytes = nines count place bytes ++ padded 9 (group_at 9 (place + 4 * count) bytes)

-- each of these groups is a number of nine digits
abbrev pub nines_fit : ℕ → ℕ → List ℕ → Bool
nines_fit count place bytes = list_all (λ i. nat_lt (group_at 9 (place + 4 * i) bytes) (10 ^ 9)) (range_with_len 0 count)

-- the digits in front of the point: what is left over, and then groups of nine
abbrev pub whole_digits : ℕ → List ℕ → List ℕ
whole_digits digits bytes = padded (digits % 9) (group_at (digits % 9) 0 bytes) ++ nines (digits / 9) (group_width (digits % 9)) bytes

abbrev pub whole_fits : ℕ → List ℕ → Bool
whole_fits digits bytes = nat_lt (group_at (digits % 9) 0 bytes) (10 ^ (digits % 9)) && nines_fit (digits / 9) (group_width (digits % 9)) bytes

-- the digits behind the point: groups of nine, and then what is left over
abbrev pub fraction_digits : ℕ → List ℕ → List ℕ
fraction_digits digits bytes = nines (digits / 9) 0 bytes ++ padded (digits % 9) (group_at (digits % 9) (4 * (digits / 9)) bytes)

abbrev pub fraction_fits : ℕ → List ℕ → Bool
fraction_fits digits bytes = nines_fit (digits / 9) 0 bytes && nat_lt (group_at (digits % 9) (4 * (digits / 9)) bytes) (10 ^ (digits % 9))

-- ---- values

-- up to 65 digits, the bytes of both parts, and no group with more digits than it has
abbrev pub is_decimal : ℕ → ℕ → List ℕ → Bool
is_decimal precision scale bytes =
    (nat_le 1 precision && (nat_le precision 65 && (nat_le scale precision && length bytes == part_width (precision - scale) + part_width scale)))
    && (whole_fits (precision - scale) (plain_bytes bytes) && fraction_fits scale (drop (part_width (precision - scale)) (plain_bytes bytes)))

unfoldable pub decimal_of : ℕ → ℕ → List ℕ → Option DecimalValue
decimal_of precision scale bytes =
    if is_decimal precision scale bytes then Some (record { precision = precision; scale = scale; bytes = bytes }) else None

-- ---- texts

-- digits without the zeros in front
unfoldable pub without_zeros : List ℕ → List ℕ
without_zeros [] = []
without_zeros (digit ∷ digits) = if digit == 48 then without_zeros digits else digit ∷ digits

-- digits, or 0 if there are none
abbrev pub or_zero : List ℕ → List ℕ
or_zero [] = 48 ∷ []
or_zero (digit ∷ digits) = digit ∷ digits

abbrev pub whole_text : ℕ → List ℕ → List ℕ
whole_text digits bytes = or_zero (without_zeros (whole_digits digits bytes))

-- a point and the digits behind it, if there are to be any
abbrev pub point_text : ℕ → List ℕ → List ℕ
point_text digits bytes = if digits == 0 then [] else 46 ∷ fraction_digits digits bytes

-- -63.48
abbrev pub decimal_text : DecimalValue → List ℕ
decimal_text d =
    (if is_negative d.bytes then 45 ∷ [] else [])
    ++ (whole_text (d.precision - d.scale) (plain_bytes d.bytes) ++ point_text d.scale (drop (part_width (d.precision - d.scale)) (plain_bytes d.bytes)))
