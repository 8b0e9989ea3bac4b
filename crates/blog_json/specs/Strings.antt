-- Strings of JSON (RFC 8259, section 7), with the escapes that MySQL writes (MySQL's sources, sql-common/json_dom.cc, `double_quote`).
use Rattle.std.specs.Prelude.{ℕ, ◌==◌, nat_lt, if◌then◌else◌, List, [], ◌∷◌, ◌++◌, codes}
use Rattle.std.specs.List.{flat_map}
use Rattle.hex.specs.Hex.{encode_lower}

-- a control character by its number
abbrev pub control_text : ℕ → List ℕ
control_text byte = codes "\\u00" ++ encode_lower (byte ∷ [])

-- a byte of a string
abbrev pub string_byte : ℕ → List ℕ
string_byte byte =
    if byte == 0x22 then codes "\\\""
    else if byte == 0x5C then codes "\\\\"
    else if byte == 0x08 then codes "\\b"
    else if byte == 0x09 then codes "\\t"
    else if byte == 0x0A then codes "\\n"
    else if byte == 0x0C then codes "\\f"
    else if byte == 0x0D then codes "\\r"
    else if nat_lt byte 0x20 then control_text byte
    else byte ∷ []

-- bytes in quotation marks
abbrev pub string_text : List ℕ → List ℕ
string_text bytes = 34 ∷ (flat_map string_byte bytes ++ 34 ∷ [])
