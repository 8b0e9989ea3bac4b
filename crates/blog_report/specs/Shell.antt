-- Names as words of a shell's command (POSIX, "Quoting").
use Rattle.std.specs.Prelude.{ℕ, ◌==◌, ◌&&◌, ◌||◌, Bool, true, false, nat_le, if◌then◌else◌, List, [], ◌∷◌, ◌++◌, codes}
use Rattle.std.specs.Fmt.{decimal}
use Rattle.std.specs.List.{flat_map}

-- a byte that stands for itself: a letter, a digit, or one of `% + , - . / : = @ _`
abbrev pub is_plain : ℕ → Bool
is_plain byte =
    ((nat_le 0x30 byte && nat_le byte 0x39) || (nat_le 0x41 byte && nat_le byte 0x5A) || (nat_le 0x61 byte && nat_le byte 0x7A))
    || (byte == 0x25 || byte == 0x2B || byte == 0x2C || byte == 0x2D || byte == 0x2E || byte == 0x2F || byte == 0x3A || byte == 0x3D || byte == 0x40 || byte == 0x5F)

abbrev pub all_plain : List ℕ → Bool
all_plain [] = true
all_plain (byte ∷ rest) = is_plain byte && all_plain rest

-- there is a byte, and each stands for itself
abbrev pub is_word : List ℕ → Bool
is_word [] = false
is_word (byte ∷ rest) = all_plain (byte ∷ rest)

-- a byte between single quotes
abbrev pub quoted_byte : ℕ → List ℕ
quoted_byte byte = if byte == 39 then codes "'\\''" else byte ∷ []

-- a text as a word: as it is, or between single quotes
abbrev pub shell_word : List ℕ → List ℕ
shell_word text = if is_word text then text else 39 ∷ (flat_map quoted_byte text ++ 39 ∷ [])

-- in front of a name that begins with `-`, so that no command takes it for an option
abbrev pub folder_of : List ℕ → List ℕ
folder_of [] = []
folder_of (byte ∷ rest) = if byte == 45 then codes "./" else []

-- the name of a file as a word
unfoldable pub shell_file : List ℕ → List ℕ
shell_file name = folder_of name ++ shell_word name

-- the commands that show and undo a unit
abbrev pub show_command : ℕ → List ℕ → List ℕ
show_command position log = codes "binlog show --at " ++ (decimal position ++ (32 ∷ shell_file log))

abbrev pub undo_command : ℕ → List ℕ → List ℕ
undo_command position log = codes "binlog undo --at " ++ (decimal position ++ (codes " -r undo.sql " ++ shell_file log))
