-- Texts as strings of JSON byte by byte.
use Rattle.std.specs.Prelude.{ℕ, ◌==◌, ◌||◌, Bool, not, nat_lt, if◌then◌else◌, List, [], ◌∷◌}
use Rattle.blog_text.specs.JsonStrings.{json_char}

-- a byte that may begin a control character from U+007F on in UTF-8: U+007F, or U+0080 to U+00BF
abbrev pub may_begin : ℕ → Bool
may_begin byte = byte == 0x7F || byte == 0xC2

-- a byte of UTF-8 that doesn't stand for itself in a string, in a text without such characters
abbrev pub is_escaped : ℕ → Bool
is_escaped byte = (byte == 0x22) || (byte == 0x5C) || nat_lt byte 0x20

abbrev pub is_literal : ℕ → Bool
is_literal byte = not (is_escaped byte)

-- what stands in a string for a byte of UTF-8
unfoldable pub json_byte : ℕ → List ℕ
json_byte byte = if is_escaped byte then json_char byte else byte ∷ []
