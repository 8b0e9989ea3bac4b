-- Sets of words, as lists: what they are, and what is found of them in a text.
use Rattle.std.specs.Prelude.{◌≡◌, ℕ, ◌+◌, ◌==◌, Bool, not, ◌&&◌, nat_le, List, length, take, drop, map, slice_index}
use Rattle.std.specs.Cmp.Lexicographic.{slice_cmp}
use Rattle.std.specs.List.{list_any}
use Rattle.std.specs.List.Sorted.{IsSortedByKey}
use Rattle.std.specs.Ordering.{nat_cmp}
use Rattle.std.specs.Str.{str_eq_ignore_ascii_case, str_to_ascii_lowercase}
use denote.Ref.{Bor}
use Rattle.blog_choice.specs.Words.{goes_on_with, stands_apart, is_word_byte}

-- the words as values
abbrev pub words_of : List (Bor (List ℕ)) → List (List ℕ)
words_of words = map (λ word. word.now) words

-- they ascend by their bytes, ASCII letters in lower case
abbrev pub AreInOrder : List (Bor (List ℕ)) → Type 0
AreInOrder words = IsSortedByKey (λ word. str_to_ascii_lowercase word.now) (slice_cmp nat_cmp) words

-- these are the lengths that the words have
abbrev pub AreLengths : List (List ℕ) → List ℕ → Type 0
AreLengths words lengths = (n : ℕ) → list_any (λ len. len == n) lengths ≡ list_any (λ word. length word == n) words

-- one of the words has this length and is in the text at a place, with no byte of a word after it
abbrev pub is_one_at : List (List ℕ) → List ℕ → ℕ → ℕ → Bool
is_one_at words text place len =
    nat_le len (length (drop place text)) && (not (is_word_byte (slice_index text (place + len))) && list_any (str_eq_ignore_ascii_case (take len (drop place text))) words)

-- one of the words is in the text at a place
abbrev pub is_any_at : List (List ℕ) → List ℕ → ℕ → Bool
is_any_at words text place = list_any (λ word. goes_on_with word text place && stands_apart word text place) words
