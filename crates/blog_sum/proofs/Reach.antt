-- A byte may be moved on by 145, 183, 211 and 300 places.
use Rattle.std.proofs.Common.{◌≡◌, ℕ, zero, suc, ◌*◌, ◌/◌, ◌%◌, ◌^◌, ◌<◌, ◌≤◌, bit_xor, refl, sym, subst, ◌∙◌, arith, pow_pos, mod-lt}
use Rattle.std.proofs.lemmas.Nat.{shr_split, div_below}
use Rattle.std.proofs.Math.Nat.{pow-suc}
use Rattle.blog_sum.specs.Crc.{step_bits}
use Rattle.blog_sum.specs.code.Folding.{sum_of}
use Rattle.blog_sum.proofs.Steps.{xor-turn, xor-above, step_bits-xor}

-- ---- sums of four

pub sum-xor : (a b c d e f g h : ℕ) → sum_of (bit_xor a e) (bit_xor b f) (bit_xor c g) (bit_xor d h) ≡ bit_xor (sum_of a b c d) (sum_of e f g h)
sum-xor a b c d e f g h =
    (λ i. bit_xor (xor-turn a e b f i) (xor-turn c g d h i)) ∙ xor-turn (bit_xor a b) (bit_xor e f) (bit_xor c d) (bit_xor g h)

pub step_bits-sum : (n a b c d : ℕ) → step_bits n (sum_of a b c d) ≡ sum_of (step_bits n a) (step_bits n b) (step_bits n c) (step_bits n d)
step_bits-sum n a b c d =
    step_bits-xor n (bit_xor a b) (bit_xor c d) ∙ (λ i. bit_xor (step_bits-xor n a b i) (step_bits-xor n c d i))

-- ---- the multiple of the polynomial

-- a byte does to the register after 304 places what it does at the four places together
abbrev pub Moves : ℕ → Type 0
Moves v = sum_of (step_bits 1272 v) (step_bits 968 v) (step_bits 744 v) (step_bits 32 v) ≡ step_bits 2432 v

moves-both : (a b : ℕ) → Moves a → Moves b → Moves (bit_xor a b)
moves-both a b h k =
    (λ i. sum_of (step_bits-xor 1272 a b i) (step_bits-xor 968 a b i) (step_bits-xor 744 a b i) (step_bits-xor 32 a b i))
    ∙ sum-xor (step_bits 1272 a) (step_bits 968 a) (step_bits 744 a) (step_bits 32 a) (step_bits 1272 b) (step_bits 968 b) (step_bits 744 b) (step_bits 32 b)
    ∙ (λ i. bit_xor (h i) (k i)) ∙ sym (step_bits-xor 2432 a b)

moves-none : Moves 0
unfolding step_bits
moves-none = refl

-- computed, step by step
moves-bit : (k : ℕ) → k < 8 → Moves (2 ^ k)
unfolding step_bits
moves-bit zero h = refl
moves-bit (suc zero) h = refl
moves-bit (suc (suc zero)) h = refl
moves-bit (suc (suc (suc zero))) h = refl
moves-bit (suc (suc (suc (suc zero)))) h = refl
moves-bit (suc (suc (suc (suc (suc zero))))) h = refl
moves-bit (suc (suc (suc (suc (suc (suc zero)))))) h = refl
moves-bit (suc (suc (suc (suc (suc (suc (suc zero))))))) h = refl
moves-bit (suc (suc (suc (suc (suc (suc (suc (suc k)))))))) h = absurd (omega arith)

moves-top : (k h : ℕ) → k < 8 → h < 2 → Moves (h * 2 ^ k)
moves-top k zero below bit = let none : 0 ≡ 0 * 2 ^ k = omega arith in subst Moves none moves-none
moves-top k (suc zero) below bit = let one : 2 ^ k ≡ 1 * 2 ^ k = omega arith in subst Moves one (moves-bit k below)
moves-top k (suc (suc h)) below bit = absurd (omega arith)

moves-below : (k v : ℕ) → k ≤ 8 → v < 2 ^ k → Moves v
moves-below zero v few fits = let none : 0 ≡ v = omega arith in subst Moves none moves-none
moves-below (suc k) v few fits =
    let bit : v / 2 ^ k < 2 = div_below v (2 ^ k) 2 (pow_pos k) (omega (arith, pow-suc 2 k)) in
    let low : v % 2 ^ k < 2 ^ k = mod-lt _ (pow_pos k) in
    let parts : bit_xor (v / 2 ^ k * 2 ^ k) (v % 2 ^ k) ≡ v = xor-above (v / 2 ^ k) k (v % 2 ^ k) low ∙ shr_split v k in
    subst Moves parts (moves-both (v / 2 ^ k * 2 ^ k) (v % 2 ^ k) (moves-top k (v / 2 ^ k) (omega arith) bit) (moves-below k (v % 2 ^ k) (omega arith) low))

pub moves-byte : (v : ℕ) → v < 256 → Moves v
moves-byte v fits = moves-below 8 v (omega arith) fits
