-- What hashing by a seed computes.
use Rattle.std.specs.Prelude.{ℕ, zero, suc, ◌+◌, ◌-◌, ◌*◌, ◌/◌, ◌%◌, ◌^◌, List, length, take, drop, if◌then◌else◌, nat_le, nat_lt, slice_index, bit_or, bit_xor}
use Rattle.std.specs.Hash.FoldHasher.{folded_multiply}
use Rattle.byteorder.specs.Endian.{little_number}

-- where hashing starts by a seed, and what it multiplies by
abbrev pub start_of : ℕ → ℕ
start_of seed = folded_multiply (bit_xor seed 0x243F_6A88_85A3_08D3) 0x1319_8A2E_0370_7345

abbrev pub factor_of : ℕ → ℕ
factor_of seed = bit_or (folded_multiply (bit_xor (start_of seed) 0xA409_3822_299F_31D0) (bit_xor seed 0x082E_FA98_EC4E_6C89)) 1

-- the first bytes of a block
abbrev pub front_word : List ℕ → ℕ
front_word bs =
    let n = length bs in
    if nat_le 8 n then little_number 8 bs
    else (if nat_le 4 n then little_number 4 bs
    else (if nat_lt 0 n then slice_index bs 0 + 256 * slice_index bs (n / 2) else 0))

-- its last bytes
abbrev pub back_word : List ℕ → ℕ
back_word bs =
    let n = length bs in
    if nat_le 8 n then little_number 8 (drop (n - 8) bs)
    else (if nat_le 4 n then little_number 4 (drop (n - 4) bs)
    else (if nat_lt 0 n then slice_index bs (n - 1) else 0))

-- the state after a block
abbrev pub mixed : ℕ → ℕ → List ℕ → ℕ
mixed factor state bs = folded_multiply (bit_xor state (front_word bs)) (bit_xor factor (back_word bs))

-- the state after the first n blocks of sixteen bytes, the last of which can be shorter
unfoldable pub after_blocks : ℕ → ℕ → List ℕ → ℕ → ℕ
after_blocks factor state bs zero = state
after_blocks factor state bs (suc n) = mixed factor (after_blocks factor state bs n) (take 16 (drop (16 * n) bs))

-- the state after all of them
unfoldable pub folded : ℕ → ℕ → List ℕ → ℕ
folded factor state bs = after_blocks factor state bs ((length bs + 15) / 16)

-- the lower half of a fold, and from there as many steps as the place says
abbrev pub beside : ℕ → ℕ → ℕ
beside fold place = (fold % 2 ^ 32 + place * 0x4D00_0001) % 2 ^ 32
