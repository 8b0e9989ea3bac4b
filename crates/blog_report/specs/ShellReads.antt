-- How a shell reads the bytes of a word (POSIX, "Quoting").
use Rattle.std.specs.Prelude.{ℕ, ◌==◌, if◌then◌else◌, List, [], ◌∷◌}

-- where a byte stands: outside of quotes, between single quotes, or behind a backslash outside of them
pub data Where : Type 0 where
  outside : Where
  quoted : Where
  escaped : Where

abbrev pub read_from : Where → List ℕ → List ℕ
read_from w [] = []
read_from outside (byte ∷ rest) = if byte == 39 then read_from quoted rest else if byte == 92 then read_from escaped rest else byte ∷ read_from outside rest
read_from quoted (byte ∷ rest) = if byte == 39 then read_from outside rest else byte ∷ read_from quoted rest
read_from escaped (byte ∷ rest) = byte ∷ read_from outside rest

abbrev pub word_read : List ℕ → List ℕ
word_read = read_from outside
