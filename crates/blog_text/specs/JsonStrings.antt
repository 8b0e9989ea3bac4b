-- Texts as strings of JSON (RFC 8259).
use Rattle.std.specs.Prelude.{ℕ, ◌==◌, ◌&&◌, ◌||◌, Bool, nat_le, nat_lt, if◌then◌else◌, List, [], ◌∷◌, ◌++◌, codes, encode_utf8}
use Rattle.std.specs.List.{flat_map}
use Rattle.bstr.specs.Utf8.{lossy_chars}
use Rattle.hex.specs.Hex.{encode_lower}

-- a control character by its number
abbrev pub json_control : ℕ → List ℕ
json_control byte = codes "\\u00" ++ encode_lower (byte ∷ [])

-- a control character that JSON allows in a string: U+007F to U+009F
abbrev pub is_high_control : ℕ → Bool
is_high_control c = nat_le 0x7F c && nat_le c 0x9F

-- a character of a string
abbrev pub json_char : ℕ → List ℕ
json_char c =
    if c == 0x22 then codes "\\\""
    else if c == 0x5C then codes "\\\\"
    else if c == 0x0A then codes "\\n"
    else if c == 0x09 then codes "\\t"
    else if c == 0x0D then codes "\\r"
    else if c == 0x08 then codes "\\b"
    else if c == 0x0C then codes "\\f"
    else if nat_lt c 0x20 || is_high_control c then json_control c
    else encode_utf8 c

-- bytes as a string, with U+FFFD for what is no character
abbrev pub json_string : List ℕ → List ℕ
json_string text = 34 ∷ (flat_map json_char (lossy_chars text) ++ 34 ∷ [])
