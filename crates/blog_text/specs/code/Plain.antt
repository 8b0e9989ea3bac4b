-- The bytes that are printed as they are.
use Rattle.std.specs.Prelude.{ℕ, suc, ◌==◌, ◌&&◌, Bool, not, nat_le, if◌then◌else◌, List, [], ◌∷◌}

-- a blank, or a visible character of ASCII, but a backslash or a backtick
abbrev pub is_plain : ℕ → Bool
is_plain byte = nat_le 0x20 byte && nat_le byte 0x7E && not (byte == 0x5C) && not (byte == 0x60)

-- how many of them are at the beginning of bytes
abbrev pub plain_len : List ℕ → ℕ
plain_len [] = 0
plain_len (byte ∷ rest) = if is_plain byte then suc (plain_len rest) else 0
