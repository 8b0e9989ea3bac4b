-- CRC-32, bit by bit (ISO 3309, as zlib's crc32; MySQL Internals manual, "Event checksum").
use Rattle.std.specs.Prelude.{ℕ, zero, suc, ◌*◌, ◌/◌, ◌%◌, List, [], ◌∷◌, bit_xor}

-- the generator polynomial; bit 31 of a register is the lowest power
abbrev pub polynomial : ℕ
polynomial = 0xEDB88320

-- one bit: the register moves down, and where a 1 fell out, the polynomial is added, which is xor
abbrev pub step_bit : ℕ → ℕ
step_bit c = bit_xor (c / 2) (c % 2 * polynomial)

-- n bits
unfoldable pub step_bits : ℕ → ℕ → ℕ
step_bits zero c = c
step_bits (suc n) c = step_bits n (step_bit c)

-- each byte is added to the register, and then its eight bits move out
unfoldable pub register_after : ℕ → List ℕ → ℕ
register_after c [] = c
register_after c (b ∷ bytes) = register_after (step_bits 8 (bit_xor c b)) bytes

-- the register begins as 32 ones, and is complemented at the end
unfoldable pub crc32_of : List ℕ → ℕ
crc32_of bytes = bit_xor (register_after 0xFFFFFFFF bytes) 0xFFFFFFFF
