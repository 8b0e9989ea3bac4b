-- What a binary search in sorted words tells, and words that are looked for in a text together.
use Rattle.std.proofs.Common.{◌≡◌, ℕ, ◌+◌, ◌≤◌, Bool, true, false, List, [], ◌∷◌, Result, Ok, Err, length, take, drop, refl, sym, ap, ◌∙◌, inl, inr, arith, Bor, length-take-le, nat_le}
use Rattle.std.specs.Prelude.{◌==◌, not, ◌&&◌, slice_index, is_ok}
use Rattle.std.specs.Cmp.Lexicographic.{slice_cmp}
use Rattle.std.specs.List.{All, list_any, range_with_len}
use Rattle.std.specs.List.Sorted.{IsBinarySearchResult, IsPermutation, IsSearchInRange}
use Rattle.std.specs.Ordering.{nat_cmp, is_eq}
use Rattle.std.specs.declared.cmp.Ordering.TheVariants.{Equal}
use Rattle.std.specs.Str.{str_eq_ignore_ascii_case, str_to_ascii_lowercase}
use Rattle.std.proofs.lemmas.Bool.{and_parts, and_from, eqb-true, cases_Bool, cases_lt, leb-true}
use Rattle.std.proofs.lemmas.Bool.Decides.{nat_tests}
use Rattle.std.proofs.lemmas.Cmp.{nat_list_cmp_total}
use Rattle.std.proofs.lemmas.List.{length-map, take_all}
use Rattle.std.proofs.lemmas.List.Folds.{Any-from_list_any, list_any_at, list_any_none}
use Rattle.std.proofs.lemmas.List.Sorted.{list_any-IsPermutation, searchable_from_sorted}
use Rattle.std.proofs.lemmas.Map.Text.{is_eq-slice_cmp}
use Rattle.std.proofs.lemmas.Slice.Eq.{bytes_eq-Decides}
use Rattle.std.specs.Prelude.{bytes_eq}
use Rattle.blog_choice.specs.Words.{goes_on_with, stands_apart, is_word_byte, occurs}
use Rattle.blog_choice.specs.code.Sets.{AreInOrder, AreLengths, is_any_at, is_one_at, words_of}
use Rattle.blog_choice.proofs.Anys.{any-and, any-same, any-swapped, same-test}
use Rattle.blog_choice.proofs.Places.{list_any-map}

-- ---- words in another order

pub reordered : (test : List ℕ → Bool) (xs ys : List (Bor (List ℕ))) → IsPermutation xs ys → list_any test (words_of ys) ≡ list_any test (words_of xs)
reordered test xs ys moved =
    list_any-map test (λ (word : Bor (List ℕ)). word.now) ys
    ∙ sym (list_any-IsPermutation (λ (word : Bor (List ℕ)). test word.now) xs ys moved)
    ∙ sym (list_any-map test (λ (word : Bor (List ℕ)). word.now) xs)

-- ---- a binary search

-- what is compared is the same, or isn't
equal-is : (xs ys : List ℕ) → slice_cmp nat_cmp xs ys ≡ Equal → bytes_eq ys xs ≡ true
equal-is xs ys h =
    (bytes_eq-Decides ys xs).1 (sym ((bytes_eq-Decides xs ys).0 (sym (is_eq-slice_cmp xs ys) ∙ ap is_eq h)))

other-is-not : (xs ys : List ℕ) → is_eq (slice_cmp nat_cmp xs ys) ≡ false → bytes_eq ys xs ≡ false
other-is-not xs ys h = elim (cases_Bool (bytes_eq ys xs)) [
  | inl same ↦ same ∙ sym ((bytes_eq-Decides xs ys).1 (sym ((bytes_eq-Decides ys xs).0 same))) ∙ sym (is_eq-slice_cmp xs ys) ∙ h
  | inr unlike ↦ unlike
]

pub found-by-search : (word : List ℕ) (xs : List (Bor (List ℕ))) (r : Result ℕ ℕ) → AreInOrder xs → IsSearchInRange r (length xs)
    → IsBinarySearchResult (λ y. slice_cmp nat_cmp (str_to_ascii_lowercase y.now) (str_to_ascii_lowercase word)) xs r
    → is_ok r ≡ list_any (str_eq_ignore_ascii_case word) (words_of xs)
found-by-search word [] (Ok i) sorted bound found = absurd (omega (arith, bound))
found-by-search word (x ∷ xs) (Ok i) sorted bound found =
    let test : Bor (List ℕ) → Bool = λ y. str_eq_ignore_ascii_case word y.now in
    sym (list_any-map (str_eq_ignore_ascii_case word) (λ (y : Bor (List ℕ)). y.now) (x ∷ xs)
    ∙ list_any_at test (x ∷ xs) i x bound (equal-is _ (str_to_ascii_lowercase word) (found x)))
found-by-search word xs (Err i) sorted bound found =
    let test : Bor (List ℕ) → Bool = λ y. str_eq_ignore_ascii_case word y.now in
    let parts = found (searchable_from_sorted nat_list_cmp_total (λ (y : Bor (List ℕ)). str_to_ascii_lowercase y.now) xs (str_to_ascii_lowercase word) sorted) in
    let none : All (λ y. test y ≡ false) xs = λ k d within. elim (cases_lt k i) [
      | inl below ↦ other-is-not _ (str_to_ascii_lowercase word) (ap is_eq (parts.0 k d (omega arith) below))
      | inr above ↦ other-is-not _ (str_to_ascii_lowercase word) (ap is_eq (parts.1 k d above within))
    ] in
    sym (list_any-map (str_eq_ignore_ascii_case word) (λ (y : Bor (List ℕ)). y.now) xs ∙ list_any_none test xs none)

-- ---- words at a place

-- words that are the same without case have one length
same-length : (xs ys : List ℕ) → str_eq_ignore_ascii_case xs ys ≡ true → length xs ≡ length ys
same-length xs ys h =
    sym (length-map xs _) ∙ ap length ((bytes_eq-Decides (str_to_ascii_lowercase xs) (str_to_ascii_lowercase ys)).0 h) ∙ length-map ys _

-- a word is at a place, and no byte of a word after it
abbrev is_here : List ℕ → ℕ → List ℕ → Bool
is_here text place word = goes_on_with word text place && not (is_word_byte (slice_index text (place + length word)))

one-here : (words : List (List ℕ)) (lengths : List ℕ) (text : List ℕ) (place : ℕ) → list_any (is_one_at words text place) lengths ≡ true → list_any (is_here text place) words ≡ true
one-here words lengths text place h =
    let rest = drop place text in
    let len = Any-from_list_any (is_one_at words text place) lengths h in
    let fits = and_parts (nat_le len.1 (length rest)) _ len.4 in
    let both = and_parts (not (is_word_byte (slice_index text (place + len.1)))) (list_any (str_eq_ignore_ascii_case (take len.1 rest)) words) fits.1 in
    let word = Any-from_list_any (str_eq_ignore_ascii_case (take len.1 rest)) words both.1 in
    let within : len.1 ≤ length rest = leb-true len.1 (length rest) fits.0 in
    let long : length word.1 ≡ len.1 = sym (same-length (take len.1 rest) word.1 word.4) ∙ length-take-le len.1 rest within in
    list_any_at (is_here text place) words word.0 word.1 word.2
    (ap (is_here text place) word.3
    ∙ and_from _ _ (ap (λ (n : ℕ). str_eq_ignore_ascii_case (take n rest) word.1) long ∙ word.4)
    (ap (λ (n : ℕ). not (is_word_byte (slice_index text (place + n)))) long ∙ both.0))

here-one : (words : List (List ℕ)) (lengths : List ℕ) (text : List ℕ) (place : ℕ) → AreLengths words lengths → list_any (is_here text place) words ≡ true → list_any (is_one_at words text place) lengths ≡ true
here-one words lengths text place are h =
    let rest = drop place text in
    let word = Any-from_list_any (is_here text place) words h in
    let both = and_parts (goes_on_with word.1 text place) (not (is_word_byte (slice_index text (place + length word.1)))) word.4 in
    let same : length (take (length word.1) rest) ≡ length word.1 = same-length (take (length word.1) rest) word.1 both.0 in
    let known : list_any (λ len. len == length word.1) lengths ≡ true =
    are (length word.1) ∙ list_any_at (λ other. length other == length word.1) words word.0 word.1 word.2 (ap (λ other. length other == length word.1) word.3 ∙ same-number (length word.1)) in
    let len = Any-from_list_any (λ len. len == length word.1) lengths known in
    let is : len.1 ≡ length word.1 = eqb-true _ _ len.4 in
    let fits : nat_le (length word.1) (length rest) ≡ true = taken-fits (length word.1) rest same in
    list_any_at (is_one_at words text place) lengths len.0 len.1 len.2
    (ap (is_one_at words text place) (len.3 ∙ is)
    ∙ and_from _ _ fits (and_from _ _ both.1 (list_any_at (str_eq_ignore_ascii_case (take (length word.1) rest)) words word.0 word.1 word.2 (ap (str_eq_ignore_ascii_case (take (length word.1) rest)) word.3 ∙ both.0))))
  where
    same-number : (n : ℕ) → (n == n) ≡ true
    same-number n = grind (arith, nat_tests)

    taken-fits : (n : ℕ) (xs : List ℕ) → length (take n xs) ≡ n → nat_le n (length xs) ≡ true
    taken-fits n xs h = elim (cases_lt (length xs) n) [
      | inl less ↦ absurd (omega (arith, h, ap length (take_all n xs (omega arith))))
      | inr fits ↦ grind (arith, nat_tests)
    ]

-- a word of one of the lengths is at a place
pub any-at : (words : List (List ℕ)) (lengths : List ℕ) (text : List ℕ) (place : ℕ) (b : Bool) → AreLengths words lengths
    → b ≡ is_word_byte (slice_index (0 ∷ text) place) → (not b && list_any (is_one_at words text place) lengths) ≡ is_any_at words text place
any-at words lengths text place b are before =
    ap (λ (more : Bool). not b && more) (same-test _ _ (one-here words lengths text place) (here-one words lengths text place are))
    ∙ sym (any-and (not b) (is_here text place) words)
    ∙ any-same (λ word. is_here text place word && not b) (λ word. goes_on_with word text place && stands_apart word text place)
    (λ word. apart b (goes_on_with word text place) (not (is_word_byte (slice_index text (place + length word))))
    ∙ ap (λ (c : Bool). goes_on_with word text place && (not c && not (is_word_byte (slice_index text (place + length word))))) before) words
  where
    apart : (b c d : Bool) → ((c && d) && not b) ≡ (c && (not b && d))
    apart true true true = refl
    apart true true false = refl
    apart true false d = refl
    apart false true true = refl
    apart false true false = refl
    apart false false d = refl

-- ---- words anywhere

pub any-occurs : (words : List (List ℕ)) (text : List ℕ) → list_any (is_any_at words text) (range_with_len 0 (length text)) ≡ list_any (λ word. occurs word text) words
unfolding occurs
any-occurs words text = any-swapped (λ place word. goes_on_with word text place && stands_apart word text place) (range_with_len 0 (length text)) words
