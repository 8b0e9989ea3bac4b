-- Folded bytes: those of an input, with what the ones before them added to them.
use Rattle.std.specs.Prelude.{◌≡◌, ℕ, ◌+◌, ◌*◌, ◌<◌, List, take, drop, slice_index, bit_xor}
use Rattle.std.specs.Simd.Lanes.{zip2}
use Rattle.blog_sum.specs.Crc.{step_bits, register_after}

-- the sum of four
abbrev pub sum_of : ℕ → ℕ → ℕ → ℕ → ℕ
sum_of a b c d = bit_xor (bit_xor a b) (bit_xor c d)

-- what comes to the byte 304 places after a place, from those 145, 183, 211 and 300 before that byte
abbrev pub comes_to : List ℕ → ℕ → ℕ
comes_to folded at = sum_of (slice_index folded (at + 159)) (slice_index folded (at + 121)) (slice_index folded (at + 93)) (slice_index folded (at + 4))

-- the first n bytes, folded, stand behind the 304 folded bytes before them
abbrev pub AreFolded : ℕ → List ℕ → List ℕ → Type 0
AreFolded n bytes folded = (k : ℕ) → k < n → slice_index folded (304 + k) ≡ bit_xor (slice_index bytes k) (comes_to folded k)

-- sixteen bytes at a place, folded
abbrev pub folded_at : ℕ → List ℕ → List ℕ → List ℕ
folded_at at bytes folded = zip2 bit_xor (take 16 (drop at bytes)) (
    zip2 bit_xor
    (zip2 bit_xor (take 16 (drop (at + 159) folded)) (take 16 (drop (at + 121) folded)))
    (zip2 bit_xor (take 16 (drop (at + 93) folded)) (take 16 (drop (at + 4) folded))))

-- the register after n folded bytes from a place on, and as many bytes of zeros as stand before that place
abbrev pub left_by : ℕ → ℕ → List ℕ → ℕ
left_by n at folded = step_bits (8 * at) (register_after 0 (take n (drop at folded)))

-- what the first 304 folded bytes give to the register 304 bytes later
unfoldable pub carried : List ℕ → ℕ
carried folded = sum_of (left_by 145 159 folded) (left_by 183 121 folded) (left_by 211 93 folded) (left_by 300 4 folded)

-- the register for which the first 304 folded bytes stand: what they give 304 bytes later is what it is then
abbrev pub StandsFor : List ℕ → ℕ → Type 0
StandsFor folded register = carried folded ≡ step_bits 2432 register
