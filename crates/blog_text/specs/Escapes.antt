-- How bytes of a log are printed for people: control characters, and bytes that aren't UTF-8, are written as escapes.
use Rattle.std.specs.Prelude.{ℕ, zero, suc, ◌+◌, ◌-◌, ◌/◌, ◌%◌, ◌==◌, ◌&&◌, ◌||◌, Bool, nat_le, nat_lt, false, if◌then◌else◌, List, [], ◌∷◌, ◌++◌, length, Option, Some, None, unwrap_or, codes, ◌*◌, encode_utf8}
use Rattle.std.specs.Char.{is_control}
use Rattle.std.specs.List.{flat_map}
use Rattle.bstr.specs.Utf8.{decoded}
use Rattle.hex.specs.Hex.{encode_lower}
use Rattle.unicode_width.specs.Width.{char_width}
use Rattle.blog_text.specs.declared.marks.Mark.{Mark}
use Rattle.blog_text.specs.declared.marks.Mark.TheVariants.{Character, Byte}

-- what bytes begin with that begin with this byte, by how they read as UTF-8 (Unicode Standard, Table 3-7)
abbrev pub mark_of : ℕ → Option ℕ → Mark
mark_of byte (Some c) = Character c
mark_of byte None = Byte byte

-- how many bytes it has behind the first one
abbrev pub more_of : Option ℕ → ℕ → ℕ
more_of (Some c) size = size - 1
more_of None size = 0

-- the characters of bytes, and each byte that is part of none, behind the first n bytes
unfoldable pub marks_behind : ℕ → List ℕ → List Mark
marks_behind n [] = []
marks_behind (suc n) (byte ∷ rest) = marks_behind n rest
marks_behind zero (byte ∷ rest) =
    let first = decoded (byte ∷ rest) in
    mark_of byte first.char ∷ marks_behind (more_of first.char first.size) rest

abbrev pub marks : List ℕ → List Mark
marks = marks_behind 0

-- a byte as `\x1b`
abbrev pub byte_escape : ℕ → List ℕ
byte_escape byte = codes "\\x" ++ encode_lower (byte ∷ [])

-- a character that hides, joins or turns what stands beside it: marks of direction and of width 0, line and paragraph
-- separators (Unicode Standard, "Layout Controls"; Unicode Standard Annex 9)
abbrev pub is_layout : ℕ → Bool
is_layout c =
    c == 0x061C || ((nat_le 0x200B c && nat_le c 0x200F) || ((nat_le 0x2028 c && nat_le c 0x202E) || ((nat_le 0x2060 c && nat_le c 0x2069) || c == 0xFEFF)))

-- its number, in four digits
abbrev pub layout_escape : ℕ → List ℕ
layout_escape c = codes "\\u{" ++ (encode_lower (c / 256 ∷ c % 256 ∷ []) ++ codes "}")

-- a character: a backslash as `\\`, a line feed, a tab and a carriage return as `\n`, `\t` and `\r`, the bytes of any other
-- control character as `\x1b`, and one that changes what stands beside it as `\u{202e}`
abbrev pub char_shown : ℕ → List ℕ
char_shown c =
    if c == 0x5C then codes "\\\\"
    else if c == 0x0A then codes "\\n"
    else if c == 0x09 then codes "\\t"
    else if c == 0x0D then codes "\\r"
    else if is_control c then flat_map byte_escape (encode_utf8 c)
    else if is_layout c then layout_escape c
    else encode_utf8 c

abbrev pub shown : Mark → List ℕ
shown (Character c) = char_shown c
shown (Byte byte) = byte_escape byte

-- bytes, escaped
abbrev pub escaped : List ℕ → List ℕ
escaped text = flat_map shown (marks text)

-- a name, escaped, between backticks, with those in it doubled
abbrev pub quoted_mark : Mark → List ℕ
quoted_mark (Character c) = if c == 96 then 96 ∷ 96 ∷ [] else char_shown c
quoted_mark (Byte byte) = byte_escape byte

abbrev pub quoted : List ℕ → List ℕ
quoted name = 96 ∷ (flat_map quoted_mark (marks name) ++ 96 ∷ [])

-- the names of a schema and of a table in it
abbrev pub quoted_table : List ℕ → List ℕ → List ℕ
quoted_table schema table = quoted schema ++ (codes "." ++ quoted table)

-- how many columns of a terminal that takes: escapes are ASCII
abbrev pub char_columns : ℕ → ℕ
char_columns c =
    if c == 0x5C then 2
    else if c == 0x0A then 2
    else if c == 0x09 then 2
    else if c == 0x0D then 2
    else if is_control c then 4 * length (encode_utf8 c)
    else if is_layout c then 8
    else unwrap_or (char_width false c) 0

abbrev pub columns_of : Mark → ℕ
columns_of (Character c) = char_columns c
columns_of (Byte byte) = 4

-- of a name between backticks
abbrev pub quoted_columns : Mark → ℕ
quoted_columns (Character c) = if c == 96 then 2 else char_columns c
quoted_columns (Byte byte) = 4

abbrev pub all_quoted : List Mark → ℕ
all_quoted [] = 0
all_quoted (mark ∷ marks) = quoted_columns mark + all_quoted marks

abbrev pub name_columns : List ℕ → ℕ
name_columns name = 2 + all_quoted (marks name)

-- the beginning of a text in at most this many columns and characters; two points follow where that isn't all
abbrev pub beginning : ℕ → ℕ → List Mark → List ℕ
beginning columns characters [] = []
beginning columns characters (mark ∷ marks) =
    if nat_le (columns_of mark) columns && nat_lt 0 characters then shown mark ++ beginning (columns - columns_of mark) (characters - 1) marks else codes ".."
