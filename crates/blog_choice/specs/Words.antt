-- Words of a statement's text. An unquoted name has ASCII letters, digits, `_`, `$`, and characters beyond ASCII
-- (MySQL Reference Manual, "Schema Object Names").
use Rattle.std.specs.Prelude.{◌≡◌, ℕ, ◌+◌, ◌==◌, Bool, true, not, ◌&&◌, ◌||◌, List, [], ◌∷◌, ◌++◌, length, take, drop, map, reverse, nat_le, slice_index}
use Rattle.std.specs.Char.{is_ascii_alphanumeric, to_ascii_lowercase}
use Rattle.std.specs.List.{list_any, range_with_len, before_first, position_or_len}
use Rattle.std.specs.Str.{str_eq_ignore_ascii_case}

-- ---- words anywhere

-- an ASCII letter, a digit, `_` or `$`
abbrev pub is_word_byte : ℕ → Bool
is_word_byte byte = is_ascii_alphanumeric byte || (byte == 95 || byte == 36)

-- a place at which the text goes on with the word, ASCII letters compared without case
abbrev pub goes_on_with : List ℕ → List ℕ → ℕ → Bool
goes_on_with word text place = str_eq_ignore_ascii_case (take (length word) (drop place text)) word

-- neither the byte before the place nor the one after the word is of a word; around the text are zero bytes
abbrev pub stands_apart : List ℕ → List ℕ → ℕ → Bool
stands_apart word text place = not (is_word_byte (slice_index (0 ∷ text) place)) && not (is_word_byte (slice_index text (place + length word)))

-- the word is in the text
unfoldable pub occurs : List ℕ → List ℕ → Bool
occurs word text = list_any (λ place. goes_on_with word text place && stands_apart word text place) (range_with_len 0 (length text))

-- the text doesn't begin with a byte of a word
abbrev pub begins_apart : List ℕ → Bool
begins_apart [] = true
begins_apart (byte ∷ _) = not (is_word_byte byte)

-- a text with the word, ASCII letters compared without case, and no byte of a word before it or after it
pub record HasWord (word text : List ℕ) : Type 0 where
  pub before : List ℕ
  pub found : List ℕ
  pub after : List ℕ
  pub parts : text ≡ before ++ (found ++ after)
  pub same : map to_ascii_lowercase found ≡ map to_ascii_lowercase word
  pub before_it : begins_apart (reverse before) ≡ true
  pub after_it : begins_apart after ≡ true

-- ---- words at the front

-- a tab, a line feed, a carriage return or a space
abbrev pub is_blank : ℕ → Bool
is_blank byte = byte == 9 || (byte == 10 || (byte == 13 || byte == 32))

-- the text without the blanks at its front
unfoldable pub after_blanks : List ℕ → List ℕ
after_blanks text = drop (position_or_len (λ byte. not (is_blank byte)) text) text

-- no letter, digit, `_`, `$` or byte from 128 on
abbrev pub ends_word : ℕ → Bool
ends_word byte = not (is_word_byte byte || nat_le 128 byte)

-- the first word, after blanks, and what follows it
unfoldable pub first_word : List ℕ → List ℕ
first_word text = before_first ends_word (after_blanks text)

unfoldable pub after_first_word : List ℕ → List ℕ
after_first_word text = drop (position_or_len ends_word (after_blanks text)) (after_blanks text)
