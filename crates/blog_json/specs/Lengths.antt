-- Bytes behind their length (MySQL's sources, sql-common/json_binary.h, "data-length ::="): seven bits in each byte, the lowest first,
-- and the highest bit set in all but the last, in at most five bytes. It is below 2 ^ 32.
use Rattle.std.specs.Prelude.{ℕ, ◌+◌, ◌*◌, ◌-◌, ◌^◌, ◌==◌, nat_lt, if◌then◌else◌, List, [], ◌∷◌, Option, Some, None, option_and_then}
use Rattle.std.specs.Borrow.{Bor}
use Rattle.blog_json.specs.Slices.{bytes_within}

-- a length, if it fits in 32 bits, and the bytes behind it
abbrev pub fitting : ℕ → List ℕ → Option (ℕ × List ℕ)
fitting len rest = if nat_lt (2 ^ 32 - 1) len then None else Some (len, rest)

-- the length at the front, in at most so many bytes, and the bytes behind it
unfoldable pub length_front : ℕ → List ℕ → Option (ℕ × List ℕ)
length_front most [] = None
length_front most (first ∷ rest) =
    if most == 0 then None
    else if nat_lt first 128 then Some (first, rest)
    else option_and_then (λ front. fitting ((first - 128) + 128 * front.0) front.1) (length_front (most - 1) rest)

-- the same of a pair of the program
abbrev pub length_seen : ℕ × Bor (List ℕ) → ℕ × List ℕ
length_seen pair = (pair.0, pair.1.now)

-- the bytes behind their length
abbrev pub sized_front : List ℕ → Option (List ℕ)
sized_front bytes = option_and_then (λ front. bytes_within 0 front.0 front.1) (length_front 5 bytes)
