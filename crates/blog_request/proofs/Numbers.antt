-- What a number is read as.
use Rattle.std.proofs.Common.{◌≡◌, ℕ, ◌^◌, ◌<◌, ◌≤◌, Bool, true, false, List, [], ◌∷◌, length, Some, None, Ok, Err, refl, ap, subst, ◌∙◌, arith, rules}
use Rattle.std.specs.Prelude.{nat_lt}
use Rattle.std.specs.Str.{IsAscii, IsUtf8}
use Rattle.std.specs.Str.Parse.{ParsesUnsigned, digits_value}
use Rattle.std.proofs.lemmas.Bool.Decides.{nat_tests}
use Rattle.std.proofs.lemmas.Str.{IsUtf8-from_ascii}
use Rattle.std.proofs.lemmas.Str.Ascii.{IsAscii-from_reads}
use Rattle.std.proofs.lemmas.Str.Parse.{IsNumeralModel, digit_at, numerals_by_value, parse_digits}
use Rattle.blog_request.specs.Ids.{read_number, are_digits}

own : IsNumeralModel (λ ds. are_digits ds ≡ true) (digits_value 10)
own = numerals_by_value _ (search rules)

-- digits are text
pub digits-utf8 : (text : List ℕ) → are_digits text ≡ true → IsUtf8 text
digits-utf8 text h =
    IsUtf8-from_ascii text (IsAscii-from_reads text (length text) (omega arith) (λ k within. omega (arith, digit_at text k (own.to text h) within)))

pub not-digits : (text : List ℕ) → are_digits text ≡ false → None ≡ read_number text
unfolding read_number
not-digits text h = rw h refl

-- what the parser says of digits: with a number, and without one
pub parsed-ok : (text digits : List ℕ) (n : ℕ) → digits ≡ text → ParsesUnsigned {E = Unit {0}} 64 10 digits (Ok n) → are_digits text ≡ true
    → ((0 < length text) × (digits_value 10 text < 2 ^ 64)) × (n ≡ digits_value 10 text)
parsed-ok text digits n same h test =
    let P : List ℕ → Type 0 = λ part. ParsesUnsigned {E = Unit {0}} 64 10 part (Ok n) in
    parse_digits own {E = Unit {0}} 64 text (Ok n) (subst P same h) test

pub parsed-err : (text digits : List ℕ) → digits ≡ text → ParsesUnsigned {E = Unit {0}} 64 10 digits (Err tt) → are_digits text ≡ true
    → ¬ ((0 < length text) × (digits_value 10 text < 2 ^ 64))
parsed-err text digits same h test =
    let P : List ℕ → Type 0 = λ part. ParsesUnsigned {E = Unit {0}} 64 10 part (Err tt) in
    parse_digits own {E = Unit {0}} 64 text (Err tt) (subst P same h) test

value-is : (text : List ℕ) → are_digits text ≡ true → 0 < digits_value 10 text → digits_value 10 text < 2 ^ 64 → Some (digits_value 10 text) ≡ read_number text
unfolding read_number
value-is text h above below =
    let first : nat_lt 0 (digits_value 10 text) ≡ true = grind (arith, nat_tests) in
    let second : nat_lt (digits_value 10 text) (2 ^ 64) ≡ true = grind (arith, nat_tests) in
    rw (h, first, second) refl

pub number-is : (text : List ℕ) (n : ℕ) → are_digits text ≡ true → n ≡ digits_value 10 text → 0 < n → digits_value 10 text < 2 ^ 64 → Some n ≡ read_number text
number-is text n h same above below = ap (λ n. Some n) same ∙ value-is text h (omega arith) below

pub zero-is : (text : List ℕ) → are_digits text ≡ true → digits_value 10 text ≡ 0 → None ≡ read_number text
unfolding read_number
zero-is text h zero = rw (h, zero) refl

-- digits of which the parser makes no number: there are none, or too many
pub refused-is : (text : List ℕ) → are_digits text ≡ true → ¬ ((0 < length text) × (digits_value 10 text < 2 ^ 64)) → None ≡ read_number text
unfolding read_number
refused-is [] h refused = refl
refused-is (byte ∷ bytes) h refused = by_case (nat_lt n (2 ^ 64)) refl
  where
    n : ℕ
    n = digits_value 10 (byte ∷ bytes)

    by_case : (b : Bool) → nat_lt n (2 ^ 64) ≡ b → None ≡ read_number (byte ∷ bytes)
    by_case true below = absurd (refused (omega arith, grind (arith, nat_tests)))
    by_case false great =
        let first : nat_lt 0 n ≡ true = grind (arith, nat_tests) in
        rw (h, first, great) refl
