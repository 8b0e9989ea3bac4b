-- The line of a short value, written over a longer text.
use Rattle.std.proofs.Common.{◌≡◌, ℕ, ◌+◌, ◌-◌, ◌*◌, ◌≤◌, List, [], ◌∷◌, ◌++◌, length, take, drop, slice_set, Some, codes, sym, ap, ap₂, ◌∙◌, append_assoc, length-drop, arith}
use Rattle.std.proofs.lemmas.List.{length-set, length-take-le, take-append-le, take-take, take_at}
use Rattle.std.proofs.Math.Seq.{take-append-add}
use Rattle.std.proofs.lemmas.Slice.{take-put_mid}
use borrow.Rule.Slice.PartMut.{mid_of, post_of, put_mid, same_len_mid}
use Rattle.hex.specs.Hex.{encode_upper, upper_digits}
use Rattle.hex.proofs.HexLemmas.{length-encode_with}
use Rattle.hex.proofs.Pairs.{take-two_writes}
use Rattle.blog_flash.specs.Printed.{line, value_text}

regrouped : (front digits : List ℕ) → ((front ++ (88 ∷ 39 ∷ [])) ++ digits) ++ (39 ∷ 10 ∷ []) ≡ front ++ (88 ∷ 39 ∷ ((digits ++ 39 ∷ []) ++ 10 ∷ []))
regrouped front digits = simp append_assoc

-- two bytes, the digits and two bytes more
pub value-written : (text bytes digits : List ℕ) (at e k : ℕ) → digits ≡ encode_upper bytes → e ≡ at + 2 + 2 * length bytes → k ≡ e - (at + 2) → at + 68 ≤ length text → length bytes ≤ 32
    → take (e + 2) (slice_set (slice_set (put_mid (at + 2) k (slice_set (slice_set text at 88) (at + 1) 39) digits) e 39) (e + 1) 10) ≡ take at text ++ line (value_text (Some bytes))
value-written text bytes digits at e k are ends part enough few =
    let head = slice_set (slice_set text at 88) (at + 1) 39 in
    let same : length head ≡ length text = length-set (slice_set text at 88) (at + 1) 39 ∙ length-set text at 88 in
    let count : length digits ≡ 2 * length bytes = ap length are ∙ length-encode_with upper_digits bytes in
    let behind = length-drop (at + 2) head in
    let mid : length digits ≡ length (mid_of (at + 2) k head) = omega (arith, count, length-take-le k (drop (at + 2) head) (omega (arith, behind, same))) in
    let whole : length (put_mid (at + 2) k head digits) ≡ length text = same_len_mid (at + 2) k head digits mid ∙ same in
    let front = take-put_mid (at + 2) k head digits e (omega (arith, count)) (omega (arith, same)) ∙ ap₂ ◌++◌ (take-two_writes text at 88 39 (omega arith)) are in
    take-two_writes (put_mid (at + 2) k head digits) e 39 10 (omega (arith, whole))
    ∙ ap (λ (written : List ℕ). written ++ (39 ∷ 10 ∷ [])) front
    ∙ regrouped (take at text) (encode_upper bytes)

-- a text is appended, its front is written over, and the rest of it goes
pub front-kept : (old appended now text rest : List ℕ) (start len count k : ℕ) → start ≡ length old → now ≡ old ++ appended → start + len ≤ count → len ≤ length text
    → take (start + len) (take count ((take start now ++ (text ++ post_of start k now)) ++ rest)) ≡ old ++ take len text
front-kept old appended now text rest start len count k there is within few =
    let before : take start now ≡ old = ap (take start) is ∙ take_at old appended start (sym there) in
    let behind : List ℕ = (text ++ post_of start k now) ++ rest in
    take-take (start + len) count ((take start now ++ (text ++ post_of start k now)) ++ rest) within
    ∙ ap (λ (front : List ℕ). take (start + len) ((front ++ (text ++ post_of start k now)) ++ rest)) before
    ∙ ap (take (start + len)) (append_assoc old (text ++ post_of start k now) rest)
    ∙ ap (λ (n : ℕ). take (n + len) (old ++ behind)) there
    ∙ take-append-add old behind len
    ∙ ap (λ (front : List ℕ). old ++ front) (ap (take len) (append_assoc text (post_of start k now) rest) ∙ take-append-le len text (post_of start k now ++ rest) few)

-- the column and its value are a line
pub lined : (number text : List ℕ) → (codes "###   @" ++ (number ++ 61 ∷ [])) ++ line text ≡ line (codes "###   @" ++ (number ++ (61 ∷ text)))
lined number text = simp append_assoc
