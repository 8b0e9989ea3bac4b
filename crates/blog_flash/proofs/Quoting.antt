-- A name between backticks, by the parts that its own backticks leave.
use Rattle.std.proofs.Common.{◌≡◌, ℕ, suc, ◌+◌, ◌-◌, ◌≤◌, ◌==◌, Bool, true, false, List, [], ◌∷◌, ◌++◌, length, take, drop, refl, sym, ap, ap₂, ◌∙◌, append_assoc, append-nil, arith}
use Rattle.std.specs.Prelude.{if◌then◌else◌, nat_le}
use Rattle.std.specs.List.{flat_map, list_any}
use Rattle.std.proofs.lemmas.Bool.{le-leb, or_parts}
use Rattle.std.proofs.lemmas.List.{drop-drop, drop-take, length-drop, take-append-drop, take-take, take_all}
use mathlib.Core.Bool.{and-true}
use Rattle.blog_trans.proofs.ProgressFirsts.{and-false}
use Rattle.bstr.specs.Find.{matches, matches_from, occurs_at}
use Rattle.bstr.specs.Text.{split_at, part}
use Rattle.blog_flash.specs.Printed.{between_backticks, quoted}

-- a name with its backticks doubled
abbrev doubled : List ℕ → List ℕ
doubled name = flat_map (λ byte. if byte == 96 then 96 ∷ 96 ∷ [] else byte ∷ []) name

-- ---- one byte more

take-next : (n : ℕ) (xs : List ℕ) (b : ℕ) (rest : List ℕ) → drop n xs ≡ b ∷ rest → take (n + 1) xs ≡ take n xs ++ b ∷ []
take-next n xs b rest is = sym (take-append-drop n (take (n + 1) xs)) ∙ ap₂ ◌++◌ (take-take n (n + 1) xs (omega arith)) (drop-take n 1 xs ∙ ap (take 1) is)

-- ---- backticks found

abbrev tick : List ℕ
tick = 96 ∷ []

-- at a byte
tick-at : (hay : List ℕ) (i b : ℕ) (rest : List ℕ) (test : Bool) → drop i hay ≡ b ∷ rest → i + 1 ≤ length hay → (b == 96) ≡ test → occurs_at hay tick i ≡ test
tick-at hay i b rest test is within test_is = rw (le-leb (i + 1) (length hay) within, is, test_is) (and-true test)

-- behind the last byte
no-tick-at : (hay : List ℕ) (i : ℕ) → drop i hay ≡ [] → occurs_at hay tick i ≡ false
no-tick-at hay i is = rw is (and-false (nat_le (i + 1) (length hay)))

-- ---- the parts

abbrev left_quoted : List ℕ → ℕ → ℕ → List ℕ → List ℕ
left_quoted hay last i rest = 96 ∷ (part last i hay ++ (doubled rest ++ tick))

abbrev parts_quoted : List ℕ → ℕ → List ℕ → List ℕ
parts_quoted hay last found = flat_map between_backticks (split_at hay 1 last found)

-- none is found any more
at-end : (hay : List ℕ) (last i : ℕ) → last ≤ i → i ≡ length hay → parts_quoted hay last [] ≡ left_quoted hay last i []
unfolding split_at
at-end hay last i before end =
    let len = length-drop last hay in
    let all = take_all (i - last) (drop last hay) (omega arith) in
    ap (λ (p : List ℕ). 96 ∷ p) (append-nil (drop last hay ++ tick) ∙ ap (λ (p : List ℕ). p ++ tick) (sym all))

-- one is found here, or another byte is
at-byte : (hay : List ℕ) (last i b : ℕ) (rest : List ℕ) (test : Bool) → (b == 96) ≡ test → drop i hay ≡ b ∷ rest → last ≤ i → i + 1 ≤ length hay
    → parts_quoted hay (i + 1) (matches_from hay tick 0 (i + 1) (suc (length rest))) ≡ left_quoted hay (i + 1) (i + 1) rest
    → parts_quoted hay last (matches_from hay tick 0 (i + 1) (suc (length rest))) ≡ left_quoted hay last (i + 1) rest
    → parts_quoted hay last (matches_from hay tick 0 i (suc (suc (length rest)))) ≡ left_quoted hay last i (b ∷ rest)
unfolding matches_from split_at
at-byte hay last i b rest true test is before within begun kept =
    let none : i + 1 - (i + 1) ≡ 0 = omega arith in
    rw (tick-at hay i b rest true is within test, begun, none, test) (ap (λ (p : List ℕ). 96 ∷ p) (append_assoc (part last i hay) tick (96 ∷ (doubled rest ++ tick))))
at-byte hay last i b rest false test is before within begun kept =
    let place : last + (i - last) ≡ i = omega arith in
    let there : drop (i - last) (drop last hay) ≡ b ∷ rest = drop-drop (i - last) last hay ∙ ap (λ (n : ℕ). drop n hay) place ∙ is in
    let more : i + 1 - last ≡ i - last + 1 = omega arith in
    let one : part last (i + 1) hay ≡ part last i hay ++ b ∷ [] = ap (λ (n : ℕ). take n (drop last hay)) more ∙ take-next (i - last) (drop last hay) b rest there in
    rw (tick-at hay i b rest false is within test, kept, one, test) (ap (λ (p : List ℕ). 96 ∷ p) (append_assoc (part last i hay) (b ∷ []) (doubled rest ++ tick)))

-- from a byte on, where the part that is open begins before it
parts-from : (hay : List ℕ) (last i : ℕ) (rest : List ℕ) → drop i hay ≡ rest → last ≤ i → i + length rest ≡ length hay
    → parts_quoted hay last (matches_from hay tick 0 i (suc (length rest))) ≡ left_quoted hay last i rest
unfolding matches_from
parts-from hay last i [] is before count = rw (no-tick-at hay i is) (at-end hay last i before (omega arith))
parts-from hay last i (b ∷ rest) is before count =
    let next : drop (i + 1) hay ≡ rest = sym (drop-drop 1 i hay) ∙ ap (drop 1) is in
    at-byte hay last i b rest (b == 96) refl is before (omega arith) (parts-from hay (i + 1) (i + 1) rest next (omega arith) (omega arith)) (parts-from hay last (i + 1) rest next (omega arith) (omega arith))

-- each part stands between backticks
pub quoted-parts : (name : List ℕ) → flat_map between_backticks (split_at name 1 0 (matches name tick 0)) ≡ quoted name
quoted-parts name =
    let all : length name + 1 - 0 ≡ suc (length name) = omega arith in
    ap (λ (n : ℕ). parts_quoted name 0 (matches_from name tick 0 0 n)) all ∙ parts-from name 0 0 name refl (omega arith) (omega arith)

-- a name with no backtick is one part
pub quoted-plain : (name : List ℕ) → list_any (λ byte. byte == 96) name ≡ false → quoted name ≡ between_backticks name
quoted-plain name none = ap between_backticks (undoubled name none)
  where
    undoubled : (rest : List ℕ) → list_any (λ byte. byte == 96) rest ≡ false → doubled rest ≡ rest
    undoubled [] free = refl
    undoubled (b ∷ rest) free =
        let parts = or_parts (b == 96) (list_any (λ byte. byte == 96) rest) free in
        rw parts.0 (ap (λ (more : List ℕ). b ∷ more) (undoubled rest parts.1))
