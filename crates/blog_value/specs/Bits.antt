-- The values of BIT columns (MySQL Reference Manual, "Bit-Value Type - BIT" and "Bit-Value Literals").
use Rattle.std.specs.Prelude.{ℕ, ◌+◌, ◌/◌, ◌^◌, ◌&&◌, nat_le, nat_lt, if◌then◌else◌, min, List, ◌++◌, Option, Some, None, option_and_then, codes}
use Rattle.blog_value.specs.Digits.{in_digits}
use Rattle.blog_value.specs.Integers.{big_of}
use Rattle.blog_value.specs.declared.bit_values.Bits.{Bits}

-- BIT(count), from 1 to 64, in as few bytes as have that many bits, the highest byte first; further bits are 0
unfoldable pub bits_of : ℕ → List ℕ → Option Bits
bits_of count bytes =
    option_and_then
    (λ bits. if nat_le 1 count && (nat_le count 64 && nat_lt bits (2 ^ count)) then Some (record { bits = bits; count = count }) else None)
    (big_of ((count + 7) / 8) bytes)

-- b'0101': a digit for each bit
abbrev pub bits_text : Bits → List ℕ
bits_text value = codes "b'" ++ (in_digits 2 (min value.count 64) value.bits ++ codes "'")
