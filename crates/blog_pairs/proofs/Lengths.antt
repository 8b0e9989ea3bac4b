-- A length is written byte by byte, the lowest first.
use Rattle.std.proofs.Common.{◌≡◌, ◌+◌, ◌/◌, ◌%◌, ◌^◌, ℕ, zero, suc, List, [], ◌∷◌, ◌++◌, refl, sym, ap, ◌∙◌, arith, append_assoc, pow-suc, div-one}
use Rattle.std.specs.Int.{byte_at, bytes_low_first}
use Rattle.byteorder.specs.Endian.{little_bytes}
use native.Mathlib.Nat as nat

low_last : (i n x : ℕ) → bytes_low_first i (suc n) x ≡ bytes_low_first i n x ++ byte_at (i + n) x ∷ []
low_last i zero x = ap (λ k. byte_at k x ∷ []) (omega arith)
low_last i (suc n) x = ap (λ bytes. byte_at i x ∷ bytes) (low_last (suc i) n x ∙ ap (λ k. bytes_low_first (suc i) n x ++ byte_at k x ∷ []) (omega arith))

byte_is : (n x : ℕ) → x / 256 ^ n % 256 ≡ byte_at n x
byte_is zero x = ap (λ m. m % 256) (div-one x)
byte_is (suc n) x = refl

low_end : (n x : ℕ) → bytes_low_first 0 (suc n) x ≡ bytes_low_first 0 n x ++ byte_at n x ∷ []
low_end n x = low_last 0 n x ∙ ap (λ k. bytes_low_first 0 n x ++ byte_at k x ∷ []) (omega arith)

-- one more byte
pub length_more : (before image after : List ℕ) (n len left byte : ℕ) → left ≡ len / 256 ^ n → byte ≡ left % 256 → image ≡ before ++ little_bytes n len → after ≡ image ++ byte ∷ []
    → after ≡ before ++ little_bytes (n + 1) len
length_more before image after n len left byte rest is text put =
    let one : suc n ≡ n + 1 = omega arith in
    put
    ∙ ap (λ b. image ++ b ∷ []) (is ∙ ap (λ m. m % 256) rest ∙ byte_is n len)
    ∙ ap (λ bytes. bytes ++ byte_at n len ∷ []) text
    ∙ append_assoc before (little_bytes n len) (byte_at n len ∷ [])
    ∙ ap (λ bytes. before ++ bytes) (sym (low_end n len))
    ∙ ap (λ k. before ++ little_bytes k len) one

pub left_more : (n len left : ℕ) → left ≡ len / 256 ^ n → left / 256 ≡ len / 256 ^ (n + 1)
left_more n len left rest =
    ap (λ m. m / 256) rest ∙ nat.div-div-eq-div-mul len (256 ^ n) 256 ∙ ap (λ m. len / m) (sym (pow-suc 256 n)) ∙ ap (λ k. len / 256 ^ k) (omega arith)
