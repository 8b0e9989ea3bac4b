-- A word is found exactly where a text has it.
use Rattle.std.proofs.Common.{◌≡◌, ℕ, ◌+◌, ◌<◌, ◌≤◌, Bool, true, false, List, [], ◌∷◌, ◌++◌, zero, suc, length, length-append, get_or, take, drop, take-append-drop, zero-add, add-one, refl, sym, ap, ◌∙◌, arith}
use Rattle.std.specs.Prelude.{not, ◌&&◌, map, reverse, slice_index}
use Rattle.std.specs.Char.{to_ascii_lowercase}
use Rattle.std.specs.List.{list_any, range_with_len}
use Rattle.std.proofs.lemmas.Bool.{and_parts, and_from}
use Rattle.std.proofs.lemmas.List.{take_more, take_at, drop_at, drop-drop, reverse-append, length-map}
use Rattle.std.proofs.lemmas.List.FromFn.{length-range_with_len, get_or-range_with_len}
use Rattle.std.proofs.lemmas.List.Folds.{Any-from_list_any, list_any_at}
use Rattle.std.proofs.lemmas.Slice.Eq.{bytes_eq-Decides}
use Rattle.blog_choice.specs.Choice.{is_nil}
use Rattle.blog_choice.specs.Words.{is_word_byte, goes_on_with, stands_apart, occurs, begins_apart, HasWord}

-- ---- the bytes beside a word

-- the byte at a place begins what is left from there
begins-drop : (n : ℕ) (text : List ℕ) → begins_apart (drop n text) ≡ not (is_word_byte (get_or text n 0))
begins-drop zero [] = refl
begins-drop zero (byte ∷ text) = refl
begins-drop (suc n) [] = refl
begins-drop (suc n) (byte ∷ text) = begins-drop n text

-- the byte before a place is the last one up to there
ends-take : (n : ℕ) (text : List ℕ) → n ≤ length text → begins_apart (reverse (take n text)) ≡ not (is_word_byte (get_or (0 ∷ text) n 0))
ends-take zero text h = refl
ends-take (suc n) text h =
    let within : n < length text = omega (arith, h) in
    let more : take (suc n) text ≡ take n text ++ get_or text n 0 ∷ [] = ap (λ m. take m text) (sym (add-one n)) ∙ take_more text n 0 within in
    ap (λ part. begins_apart (reverse part)) more ∙ ap begins_apart (reverse-append (take n text) (get_or text n 0 ∷ []))

-- ---- from a place to the parts

has-word : (word text : List ℕ) (place : ℕ) → place < length text → (goes_on_with word text place && stands_apart word text place) ≡ true → HasWord word text
has-word word text place within h =
    let rest = drop place text in
    let both = and_parts (goes_on_with word text place) (stands_apart word text place) h in
    let beside = and_parts (not (is_word_byte (slice_index (0 ∷ text) place))) (not (is_word_byte (slice_index text (place + length word)))) both.1 in
    record {
      before = take place text;
      found = take (length word) rest;
      after = drop (length word) rest;
      parts = sym (ap (λ part. take place text ++ part) (take-append-drop (length word) rest) ∙ take-append-drop place text);
      same = (bytes_eq-Decides (map to_ascii_lowercase (take (length word) rest)) (map to_ascii_lowercase word)).0 both.0;
      before_it = ends-take place text (omega (arith, within)) ∙ beside.0;
      after_it = ap begins_apart (drop-drop (length word) place text) ∙ begins-drop (place + length word) text ∙ beside.1;
    }

pub word-found : (word text : List ℕ) → occurs word text ≡ true → HasWord word text
unfolding occurs
word-found word text h =
    let at = Any-from_list_any (λ place. goes_on_with word text place && stands_apart word text place) (range_with_len 0 (length text)) h in
    let within : at.0 < length text = omega (arith, at.2, length-range_with_len 0 (length text)) in
    let is : at.1 ≡ at.0 = sym at.3 ∙ get_or-range_with_len 0 (length text) at.0 at.1 within ∙ zero-add at.0 in
    has-word word text at.1 (omega arith) at.4

-- ---- from the parts to a place

not-nil : (word : List ℕ) → is_nil word ≡ false → 0 < length word
not-nil [] h = cc
not-nil (byte ∷ word) h = omega arith

-- one place at which a test passes
at-place : (test : ℕ → Bool) (n place : ℕ) → place < n → test place ≡ true → list_any test (range_with_len 0 n) ≡ true
at-place test n place within h =
    list_any_at test (range_with_len 0 n) place 0 (omega (arith, length-range_with_len 0 n)) (ap test (get_or-range_with_len 0 n place 0 within ∙ zero-add place) ∙ h)

pub word-again : (word text : List ℕ) → is_nil word ≡ false → HasWord word text → occurs word text ≡ true
unfolding occurs
word-again word text h has =
    let place = length has.before in
    let tail = has.found ++ has.after in
    let same_len : length has.found ≡ length word = sym (length-map has.found to_ascii_lowercase) ∙ ap length has.same ∙ length-map word to_ascii_lowercase in
    let len : length text ≡ place + (length has.found + length has.after) =
    ap length has.parts ∙ length-append has.before tail ∙ ap (λ n. place + n) (length-append has.found has.after) in
    let within : place < length text = omega (arith, not-nil word h) in
    let rest : drop place text ≡ tail = ap (λ part. drop place part) has.parts ∙ drop_at has.before tail place refl in
    let front : take (length word) (drop place text) ≡ has.found = ap (λ part. take (length word) part) rest ∙ take_at has.found has.after (length word) same_len in
    let behind : drop (place + length word) text ≡ has.after =
    sym (drop-drop (length word) place text) ∙ ap (λ part. drop (length word) part) rest ∙ drop_at has.found has.after (length word) same_len in
    let taken : take place text ≡ has.before = ap (λ part. take place part) has.parts ∙ take_at has.before tail place refl in
    let goes : goes_on_with word text place ≡ true =
    (bytes_eq-Decides (map to_ascii_lowercase (take (length word) (drop place text))) (map to_ascii_lowercase word)).1 (ap (λ part. map to_ascii_lowercase part) front ∙ has.same) in
    let apart_before : not (is_word_byte (slice_index (0 ∷ text) place)) ≡ true =
    sym (ends-take place text (omega arith)) ∙ ap (λ part. begins_apart (reverse part)) taken ∙ has.before_it in
    let apart_after : not (is_word_byte (slice_index text (place + length word))) ≡ true =
    sym (begins-drop (place + length word) text) ∙ ap begins_apart behind ∙ has.after_it in
    at-place (λ at. goes_on_with word text at && stands_apart word text at) (length text) place within
    (and_from (goes_on_with word text place) (stands_apart word text place) goes (and_from _ _ apart_before apart_after))
