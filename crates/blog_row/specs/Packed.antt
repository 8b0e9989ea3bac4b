-- Packed integers (MySQL Internals manual, "Packed Integer"; in the protocol, "Length-Encoded Integer").
use Rattle.std.specs.Prelude.{◌≡◌, ℕ, ◌==◌, nat_le, if◌then◌else◌, List, [], ◌∷◌, length, Option, Some, None, option_and_then, option_map}
use Rattle.byteorder.specs.Endian.{little_number}
use Rattle.blog_row.specs.declared.packed.Packed.{Packed}
use Rattle.blog_row.specs.Checks.{cut}

-- how many bytes of value follow the first byte: none up to 250, which is the value itself
abbrev pub announced : ℕ → Option ℕ
announced first =
    if nat_le first 250 then Some 0
    else if first == 252 then Some 2
    else if first == 253 then Some 3
    else if first == 254 then Some 8
    else None

-- the value of a first byte and those that it announces
abbrev pub packed_value : ℕ → List ℕ → ℕ
packed_value first [] = first
packed_value first (low ∷ high) = little_number (length (low ∷ high)) (low ∷ high)

-- the bytes spell the number, not always as shortly as they could
abbrev pub IsPacked : List ℕ → ℕ → Type 0
IsPacked [] n = ⊥
IsPacked (first ∷ rest) n = (announced first ≡ Some (length rest)) × (n ≡ packed_value first rest)

-- the number at the front, its bytes, and the others
unfoldable pub packed_front : List ℕ → Option (ℕ × List ℕ × List ℕ)
packed_front [] = None
packed_front (first ∷ bytes) =
    option_and_then (λ more. option_map (λ p. (packed_value first p.0, first ∷ p.0, p.1)) (cut more bytes)) (announced first)

-- the same of a packed integer of the program
abbrev pub packed_seen : Packed → ℕ × List ℕ × List ℕ
packed_seen p = (p.value, p.spelling.now, p.rest.now)
