-- Steps of the register go through xor.
use Rattle.std.proofs.Common.{◌≡◌, ℕ, zero, suc, ◌+◌, ◌*◌, ◌/◌, ◌%◌, ◌^◌, ◌<◌, bit_xor, refl, sym, ap, ◌∙◌, arith, pow_pos, mod-lt}
use Rattle.std.proofs.lemmas.Nat.{xor_shr, xor_mod, xor_comm, xor_block, shr_split}
use Rattle.std.proofs.Math.Nat.{pow-suc}
use lib.Bits.{xor_assoc, xor_self, xor_zero_l, xor_zero_r}
use Rattle.blog_sum.specs.Crc.{polynomial, step_bit, step_bits}

-- ---- xor

-- the inner two of four change places
pub xor-turn : (a b c d : ℕ) → bit_xor (bit_xor a b) (bit_xor c d) ≡ bit_xor (bit_xor a c) (bit_xor b d)
xor-turn a b c d =
    xor_assoc a b (bit_xor c d)
    ∙ ap (bit_xor a) (sym (xor_assoc b c d) ∙ ap (λ x. bit_xor x d) (xor_comm b c) ∙ xor_assoc c b d)
    ∙ sym (xor_assoc a c (bit_xor b d))

-- two complements are none
pub xor-twice : (a b : ℕ) → bit_xor (bit_xor a b) b ≡ a
xor-twice a b = xor_assoc a b b ∙ ap (bit_xor a) (xor_self b) ∙ xor_zero_r a

-- bits with no place in common add up
pub xor-above : (h k low : ℕ) → low < 2 ^ k → bit_xor (h * 2 ^ k) low ≡ h * 2 ^ k + low
xor-above h k low fits =
    let both = xor_block k h 0 0 low (pow_pos k) fits in
    let left : h * 2 ^ k + 0 ≡ h * 2 ^ k = omega arith in
    let right : 0 * 2 ^ k + low ≡ low = omega arith in
    (λ i. bit_xor (sym left i) (sym right i)) ∙ both ∙ rw (xor_zero_r h, xor_zero_l low) refl

-- ---- one step

-- the polynomial, taken as often as a bit says
times-bit : (a b : ℕ) → a < 2 → b < 2 → bit_xor a b * polynomial ≡ bit_xor (a * polynomial) (b * polynomial)
times-bit zero zero f g = refl
times-bit zero (suc zero) f g = refl
times-bit (suc zero) zero f g = refl
times-bit (suc zero) (suc zero) f g = refl
times-bit (suc (suc a)) b f g = absurd (omega arith)
times-bit zero (suc (suc b)) f g = absurd (omega arith)
times-bit (suc zero) (suc (suc b)) f g = absurd (omega arith)

pub step_bit-xor : (a b : ℕ) → step_bit (bit_xor a b) ≡ bit_xor (step_bit a) (step_bit b)
step_bit-xor a b =
    let high : bit_xor a b / 2 ≡ bit_xor (a / 2) (b / 2) = xor_shr a b 1 in
    let low : bit_xor a b % 2 ≡ bit_xor (a % 2) (b % 2) = xor_mod a b 1 in
    let odd : bit_xor (a % 2) (b % 2) * polynomial ≡ bit_xor (a % 2 * polynomial) (b % 2 * polynomial) = times-bit (a % 2) (b % 2) (omega arith) (omega arith) in
    rw (high, low, odd) (xor-turn (a / 2) (b / 2) (a % 2 * polynomial) (b % 2 * polynomial))

-- a register whose lowest bit is 0 is halved
step_bit-even : (h : ℕ) → step_bit (h * 2) ≡ h
step_bit-even h =
    let half : h * 2 / 2 ≡ h = omega arith in
    let even : h * 2 % 2 ≡ 0 = omega arith in
    rw (half, even) (xor_zero_r h)

-- ---- many steps

pub step_bits-xor : (n a b : ℕ) → step_bits n (bit_xor a b) ≡ bit_xor (step_bits n a) (step_bits n b)
unfolding step_bits
step_bits-xor zero a b = refl
step_bits-xor (suc n) a b = ap (step_bits n) (step_bit-xor a b) ∙ step_bits-xor n (step_bit a) (step_bit b)

-- steps after steps
pub step_bits-add : (m n c : ℕ) → step_bits (m + n) c ≡ step_bits n (step_bits m c)
unfolding step_bits
step_bits-add zero n c = let none : zero + n ≡ n = omega arith in ap (λ k. step_bits k c) none
step_bits-add (suc m) n c =
    let next : suc m + n ≡ suc (m + n) = omega arith in
    ap (λ k. step_bits k c) next ∙ step_bits-add m n (step_bit c)

-- zeros at the bottom move out
pub step_bits-zeros : (j h : ℕ) → step_bits j (h * 2 ^ j) ≡ h
unfolding step_bits
step_bits-zeros zero h = let one : h * 2 ^ 0 ≡ h = omega arith in one
step_bits-zeros (suc j) h =
    let next : h * 2 ^ suc j ≡ h * 2 ^ j * 2 = omega (arith, ap (λ p. h * p) (pow-suc 2 j)) in
    ap (λ c. step_bits j (step_bit c)) next ∙ ap (step_bits j) (step_bit-even (h * 2 ^ j)) ∙ step_bits-zeros j h

-- the law of every table: the lowest j bits are the only ones that the first j steps spend
pub step_bits-split : (j m x : ℕ) → step_bits (j + m) x ≡ bit_xor (step_bits (j + m) (x % 2 ^ j)) (step_bits m (x / 2 ^ j))
step_bits-split j m x =
    let low : ℕ = x % 2 ^ j in
    let high : ℕ = x / 2 ^ j in
    let parts : x ≡ bit_xor (high * 2 ^ j) low = sym (xor-above high j low (mod-lt _ (pow_pos j)) ∙ shr_split x j) in
    let out : step_bits (j + m) (high * 2 ^ j) ≡ step_bits m high = step_bits-add j m (high * 2 ^ j) ∙ ap (step_bits m) (step_bits-zeros j high) in
    ap (step_bits (j + m)) parts ∙ step_bits-xor (j + m) (high * 2 ^ j) low ∙ xor_comm (step_bits (j + m) (high * 2 ^ j)) (step_bits (j + m) low)
    ∙ ap (bit_xor (step_bits (j + m) low)) out
