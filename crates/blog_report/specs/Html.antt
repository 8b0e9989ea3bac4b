-- Texts in HTML.
use Rattle.std.specs.Prelude.{ℕ, ◌==◌, ◌||◌, Bool, if◌then◌else◌, List, ◌∷◌, ◌++◌, codes, encode_utf8}
use Rattle.std.specs.Char.{is_control}
use Rattle.std.specs.List.{flat_map}
use Rattle.bstr.specs.Utf8.{lossy_chars}

-- a character: what HTML would read as its own is escaped, and U+FFFD stands for a control character, which a page can't have
abbrev pub html_char : ℕ → List ℕ
html_char c =
    if c == 0x26 then codes "&amp;"
    else if c == 0x3C then codes "&lt;"
    else if c == 0x3E then codes "&gt;"
    else if c == 0x22 then codes "&quot;"
    else if c == 0x27 then codes "&#39;"
    else if is_control c then encode_utf8 0xFFFD
    else encode_utf8 c

-- bytes as text, with U+FFFD for what is no character
abbrev pub escaped_html : List ℕ → List ℕ
escaped_html text = flat_map html_char (lossy_chars text)

-- the names of a schema and of a table in it
abbrev pub table_html : List ℕ → List ℕ → List ℕ
table_html schema table = escaped_html schema ++ (46 ∷ escaped_html table)

-- a byte that begins or ends a tag, or the value of an attribute: `<`, `>`, `"` or `'`
abbrev pub is_syntax : ℕ → Bool
is_syntax byte = byte == 0x3C || byte == 0x3E || byte == 0x22 || byte == 0x27
