-- Integers are read exactly as they are spelled.
use Rattle.std.proofs.Common.{◌≡◌, ℕ, zero, suc, ◌+◌, ◌-◌, ◌*◌, ◌/◌, ◌%◌, ◌^◌, ◌<◌, ◌≤◌, inl, inr, true, false, List, [], ◌∷◌, ◌++◌, length, take, drop, Some, refl, sym, ap, ◌∙◌, subst, arith, take-append-drop, add-one}
use Rattle.std.specs.Prelude.{◌==◌, nat_le}
use Rattle.std.specs.Int.{bytes_low_first}
use Rattle.std.proofs.lemmas.Bool.{cases_lt, leb-true}
use Rattle.std.proofs.lemmas.Bool.Decides.{nat_tests}
use Rattle.std.proofs.lemmas.List.{drop_at, length-append}
use Rattle.std.proofs.lemmas.Option.{cond_some, none-some}
use Rattle.byteorder.specs.Endian.{little_bytes, little_from, little_number}
use Rattle.byteorder.specs.Numbers.{little_from-lt, little_number-reads_back, length-bytes_low_first}
use Rattle.blog_event.specs.File.{AreBytes}
use Rattle.blog_event.proofs.Framing.{number-bytes}
use Rattle.blog_gtid.specs.Integers.{spelled, most_bits, IsInteger, following, value_in, integer_front}
use Rattle.blog_gtid.proofs.TrailingOnes.{counted, ended, ones-of-255}

-- ---- the number in the bytes of an integer that isn't eight one bits and a value

-- v behind n one bits and a zero bit
abbrev marked : ℕ → ℕ → ℕ
marked n v = v * 2 ^ (n + 1) + (2 ^ n - 1)

-- it fits its bytes, its lowest ends in these bits, and v is what is above them
record Marks (n v : ℕ) : Type 0 where
  fits : v < 2 ^ (7 * (n + 1)) → marked n v < 256 ^ (n + 1)
  ends : marked n v % 256 % 2 ^ (n + 1) ≡ 2 ^ n - 1
  value : marked n v / 2 ^ (n + 1) ≡ v

-- a number whose lowest byte ends in these bits is what is above them behind them
record Unmarks (n x first above : ℕ) : Type 0 where
  fits : x < 256 ^ (n + 1) → x / 2 ^ (n + 1) < 2 ^ (7 * (n + 1))
  is : x ≡ first + 256 * above → first % 2 ^ (n + 1) ≡ 2 ^ n - 1 → x ≡ marked n (x / 2 ^ (n + 1))

-- what holds of each number below eight
each-below-8 : (P : ℕ → Type 0) → P 0 → P 1 → P 2 → P 3 → P 4 → P 5 → P 6 → P 7 → (n : ℕ) → n < 8 → P n
each-below-8 P a b c d e f g h zero few = a
each-below-8 P a b c d e f g h (suc zero) few = b
each-below-8 P a b c d e f g h (suc (suc zero)) few = c
each-below-8 P a b c d e f g h (suc (suc (suc zero))) few = d
each-below-8 P a b c d e f g h (suc (suc (suc (suc zero)))) few = e
each-below-8 P a b c d e f g h (suc (suc (suc (suc (suc zero))))) few = f
each-below-8 P a b c d e f g h (suc (suc (suc (suc (suc (suc zero)))))) few = g
each-below-8 P a b c d e f g h (suc (suc (suc (suc (suc (suc (suc zero))))))) few = h
each-below-8 P a b c d e f g h (suc (suc (suc (suc (suc (suc (suc (suc n)))))))) few = absurd (omega arith)

marks : (v n : ℕ) → n < 8 → Marks n v
marks v = each-below-8 (λ n. Marks n v)
    (record { fits = λ h. omega arith; ends = omega arith; value = omega arith })
    (record { fits = λ h. omega arith; ends = omega arith; value = omega arith })
    (record { fits = λ h. omega arith; ends = omega arith; value = omega arith })
    (record { fits = λ h. omega arith; ends = omega arith; value = omega arith })
    (record { fits = λ h. omega arith; ends = omega arith; value = omega arith })
    (record { fits = λ h. omega arith; ends = omega arith; value = omega arith })
    (record { fits = λ h. omega arith; ends = omega arith; value = omega arith })
    (record { fits = λ h. omega arith; ends = omega arith; value = omega arith })

unmarks : (x first above n : ℕ) → n < 8 → Unmarks n x first above
unmarks x first above = each-below-8 (λ n. Unmarks n x first above)
    (record { fits = λ h. omega arith; is = λ e f. omega arith })
    (record { fits = λ h. omega arith; is = λ e f. omega arith })
    (record { fits = λ h. omega arith; is = λ e f. omega arith })
    (record { fits = λ h. omega arith; is = λ e f. omega arith })
    (record { fits = λ h. omega arith; is = λ e f. omega arith })
    (record { fits = λ h. omega arith; is = λ e f. omega arith })
    (record { fits = λ h. omega arith; is = λ e f. omega arith })
    (record { fits = λ h. omega arith; is = λ e f. omega arith })

-- ---- the two forms

-- a number below eight isn't eight
other-form : (n : ℕ) → n < 8 → (n == 8) ≡ false
other-form n few = grind (arith, nat_tests)

bits-marked : (n : ℕ) → n < 8 → most_bits n ≡ 7 * (n + 1)
bits-marked n few = let other = other-form n few in rw other

spelled-marked : (n v : ℕ) → n < 8 → spelled n v ≡ little_bytes (n + 1) (marked n v)
unfolding spelled
spelled-marked n v few = let other = other-form n few in rw other

value-marked : (n : ℕ) (bytes : List ℕ) → n < 8 → value_in n bytes ≡ little_number (n + 1) bytes / 2 ^ (n + 1)
unfolding value_in
value-marked n bytes few = let other = other-form n few in rw other

-- ---- what is spelled is read

-- a first byte, and the bytes of the integer that follow it
read-as : (first n v : ℕ) (own rest : List ℕ) → following first ≡ n → length own ≡ n → value_in n (first ∷ (own ++ rest)) ≡ v
    → integer_front (first ∷ (own ++ rest)) ≡ Some (v, rest)
unfolding integer_front
read-as first n v own rest count size value =
    let len = length-append own rest in
    let enough : nat_le n (length (own ++ rest)) ≡ true = grind (arith, nat_tests) in
    rw (count, enough, drop_at own rest n size, value)

wide-again : (v : ℕ) (rest : List ℕ) → v < 2 ^ 64 → integer_front (spelled 8 v ++ rest) ≡ Some (v, rest)
unfolding spelled value_in
wide-again v rest fits = read-as 255 8 v (little_bytes 8 v) rest ones-of-255 refl (little_number-reads_back 8 v rest fits)

-- the lowest byte in front
lowest-first : (n x : ℕ) → little_bytes (n + 1) x ≡ (x % 256) ∷ bytes_low_first 1 n x
lowest-first n x = rw (add-one n)

marked-again : (n v : ℕ) (rest : List ℕ) → n < 8 → v < 2 ^ (7 * (n + 1)) → integer_front (spelled n v ++ rest) ≡ Some (v, rest)
marked-again n v rest few fits =
    let x : ℕ = marked n v in
    let m : Marks n v = marks v n few in
    let text : spelled n v ≡ (x % 256) ∷ bytes_low_first 1 n x = spelled-marked n v few ∙ lowest-first n x in
    let count : following (x % 256) ≡ n = counted (x % 256) n (omega arith) few m.ends in
    let value : value_in n ((x % 256) ∷ (bytes_low_first 1 n x ++ rest)) ≡ v =
    ap (λ bytes. value_in n (bytes ++ rest)) (sym (lowest-first n x)) ∙ value-marked n (little_bytes (n + 1) x ++ rest) few
    ∙ ap (λ y. y / 2 ^ (n + 1)) (little_number-reads_back (n + 1) x rest (m.fits fits)) ∙ m.value in
    ap (λ bytes. integer_front (bytes ++ rest)) text ∙ read-as (x % 256) n v (bytes_low_first 1 n x) rest count (length-bytes_low_first 1 n x) value

form-again : (n v : ℕ) (rest : List ℕ) → n ≤ 8 → v < 2 ^ most_bits n → integer_front (spelled n v ++ rest) ≡ Some (v, rest)
form-again n v rest few fits = elim (cases_lt n 8) [
  | inl below ↦ marked-again n v rest below (rw (bits-marked n below) at fits)
  | inr not_below ↦
      let same : n ≡ 8 = omega arith in
      subst (λ k. v < 2 ^ most_bits k → integer_front (spelled k v ++ rest) ≡ Some (v, rest)) (sym same) (wide-again v rest) fits
]

pub integer-again : (bytes : List ℕ) (v : ℕ) (rest : List ℕ) → IsInteger bytes v → integer_front (bytes ++ rest) ≡ Some (v, rest)
integer-again bytes v rest is = ap (λ text. integer_front (text ++ rest)) is.is ∙ form-again is.more v rest is.few is.fits

-- ---- what is read is spelled

-- after eight one bits
wide-found : (others : List ℕ) (v : ℕ) → AreBytes others → 8 ≤ length others → little_number 8 others ≡ v
    → (first : List ℕ) × IsInteger first v × (255 ∷ others ≡ first ++ drop 8 others)
unfolding spelled
wide-found others v are enough value =
    let text : little_bytes 8 v ≡ take 8 others = ap (little_bytes 8) (sym value) ∙ number-bytes 8 others are enough in
    let fits : little_number 8 others < 256 ^ 8 = little_from-lt 0 8 others are in
    let below : v < 2 ^ 64 = omega (arith, fits, value) in (
      255 ∷ take 8 others,
      record { more = 8; few = omega arith; fits = below; is = ap (λ bytes. 255 ∷ bytes) (sym text) },
      ap (λ bytes. 255 ∷ bytes) (sym (take-append-drop 8 others)),
    )

-- after fewer
marked-found : (n first : ℕ) (others : List ℕ) → n < 8 → AreBytes (first ∷ others) → first % 2 ^ (n + 1) ≡ 2 ^ n - 1 → n ≤ length others
    → (own : List ℕ) × IsInteger own (little_number (n + 1) (first ∷ others) / 2 ^ (n + 1)) × (first ∷ others ≡ own ++ drop n others)
marked-found n first others few are ends enough =
    let bytes : List ℕ = first ∷ others in
    let x : ℕ = little_number (n + 1) bytes in
    let above : ℕ = little_from 1 n bytes in
    let parts : x ≡ first + 256 * above = rw (add-one n) in
    let u : Unmarks n x first above = unmarks x first above n few in
    let within : n + 1 ≤ length bytes = omega arith in
    let text : take (n + 1) bytes ≡ spelled n (x / 2 ^ (n + 1)) =
    sym (number-bytes (n + 1) bytes are within) ∙ ap (little_bytes (n + 1)) (u.is parts ends) ∙ sym (spelled-marked n (x / 2 ^ (n + 1)) few) in
    let fits : x / 2 ^ (n + 1) < 2 ^ most_bits n = rw (bits-marked n few) (u.fits (little_from-lt 0 (n + 1) bytes are)) in
    let behind : drop (n + 1) bytes ≡ drop n others = rw (add-one n) in (
      take (n + 1) bytes,
      record { more = n; few = omega arith; fits = fits; is = text },
      sym (take-append-drop (n + 1) bytes) ∙ ap (λ rest. take (n + 1) bytes ++ rest) behind,
    )

-- a first byte, and enough bytes that follow it
form-found : (first : ℕ) (others : List ℕ) (v : ℕ) → AreBytes (first ∷ others) → following first ≤ length others → value_in (following first) (first ∷ others) ≡ v
    → (own : List ℕ) × IsInteger own v × (first ∷ others ≡ own ++ drop (following first) others)
unfolding value_in
form-found first others v are enough value = elim (ended first (are 0)) [
  | inl h ↦
      let wide : little_number 8 others ≡ v = ap (λ n. value_in n (first ∷ others)) (sym h.0) ∙ value in
      let f : (own : List ℕ) × IsInteger own v × (255 ∷ others ≡ own ++ drop 8 others) = wide-found others v (λ i. are (suc i)) (omega arith) wide in
      (f.0, f.1, ap (λ byte. byte ∷ others) h.1 ∙ f.2 ∙ ap (λ n. f.0 ++ drop n others) (sym h.0))
  | inr h ↦
      let n : ℕ = following first in
      let f = marked-found n first others h.0 are h.1 enough in
      (f.0, subst (λ w. IsInteger f.0 w) (sym (value-marked n (first ∷ others) h.0) ∙ value) f.1, f.2)
]

pub integer-found : (bytes : List ℕ) (v : ℕ) (rest : List ℕ) → AreBytes bytes → integer_front bytes ≡ Some (v, rest)
    → (first : List ℕ) × IsInteger first v × (bytes ≡ first ++ rest)
unfolding integer_front
integer-found [] v rest are e = absurd (none-some _ e)
integer-found (first ∷ others) v rest are e =
    let (test, same) = cond_some _ _ _ e in
    let value : value_in (following first) (first ∷ others) ≡ v = ap (λ (p : ℕ × List ℕ). p.0) same in
    let behind : drop (following first) others ≡ rest = ap (λ (p : ℕ × List ℕ). p.1) same in
    let enough : following first ≤ length others = leb-true (following first) (length others) test in
    let f = form-found first others v are enough value in
    (f.0, f.1, f.2 ∙ ap (λ bytes. f.0 ++ bytes) behind)
