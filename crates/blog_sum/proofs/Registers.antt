-- Registers over lists of bytes, and how many places on.
use Rattle.std.proofs.Common.{◌≡◌, ℕ, zero, suc, ◌+◌, ◌*◌, List, [], ◌∷◌, length, replicate, bit_xor, refl, sym, ap, ◌∙◌, arith}
use lib.Bits.{xor_assoc, xor_zero_r}
use lib.Lanes.{zip2}
use Rattle.blog_sum.specs.Crc.{step_bits, register_after}
use Rattle.blog_sum.proofs.Steps.{xor-turn, step_bits-xor, step_bits-add}

-- ---- steps

no-steps-left : (c : ℕ) → step_bits 0 c ≡ c
unfolding step_bits
no-steps-left c = refl

-- no register stays none
pub step_bits-none : (n : ℕ) → step_bits n 0 ≡ 0
unfolding step_bits
step_bits-none zero = refl
step_bits-none (suc n) = step_bits-none n

-- the order of steps is free
pub step_bits-turn : (m n c : ℕ) → step_bits m (step_bits n c) ≡ step_bits n (step_bits m c)
step_bits-turn m n c =
    let turned : n + m ≡ m + n = omega arith in
    sym (step_bits-add n m c) ∙ ap (λ k. step_bits k c) turned ∙ step_bits-add m n c

-- ---- bytes

pub one-byte : (c b : ℕ) → register_after c (b ∷ []) ≡ step_bits 8 (bit_xor c b)
unfolding register_after
one-byte c b = refl

-- a part of the register can go apart
apart : (a b : ℕ) (xs : List ℕ) → register_after (bit_xor a b) xs ≡ bit_xor (step_bits (8 * length xs) a) (register_after b xs)
unfolding register_after
apart a b [] = ap (λ r. bit_xor r b) (sym (no-steps-left a))
apart a b (x ∷ xs) =
    let more : 8 + 8 * length xs ≡ 8 * suc (length xs) = omega arith in
    ap (λ r. register_after r xs) (ap (step_bits 8) (xor_assoc a b x) ∙ step_bits-xor 8 a (bit_xor b x))
    ∙ apart (step_bits 8 a) (step_bits 8 (bit_xor b x)) xs
    ∙ ap (λ r. bit_xor r (register_after (step_bits 8 (bit_xor b x)) xs)) (sym (step_bits-add 8 (8 * length xs) a) ∙ ap (λ n. step_bits n a) more)

-- the register apart from the bytes
pub register-apart : (c : ℕ) (xs : List ℕ) → register_after c xs ≡ bit_xor (step_bits (8 * length xs) c) (register_after 0 xs)
register-apart c xs = ap (λ r. register_after r xs) (sym (xor_zero_r c)) ∙ apart c 0 xs

-- two lists together
pub together : (a b : ℕ) (xs ys : List ℕ) → length xs ≡ length ys → register_after (bit_xor a b) (zip2 bit_xor xs ys) ≡ bit_xor (register_after a xs) (register_after b ys)
unfolding register_after
together a b [] [] same = refl
together a b [] (y ∷ ys) same = absurd (omega arith)
together a b (x ∷ xs) [] same = absurd (omega arith)
together a b (x ∷ xs) (y ∷ ys) same =
    ap (λ r. register_after r (zip2 bit_xor xs ys)) (ap (step_bits 8) (xor-turn a b x y) ∙ step_bits-xor 8 (bit_xor a x) (bit_xor b y))
    ∙ together (step_bits 8 (bit_xor a x)) (step_bits 8 (bit_xor b y)) xs ys (omega arith)

-- bytes of zeros
pub after-zeros : (n c : ℕ) → register_after c (replicate n 0) ≡ step_bits (8 * n) c
unfolding register_after
after-zeros zero c = sym (no-steps-left c)
after-zeros (suc n) c =
    let more : 8 + 8 * n ≡ 8 * suc n = omega arith in
    ap (λ r. register_after (step_bits 8 r) (replicate n 0)) (xor_zero_r c) ∙ after-zeros n (step_bits 8 c)
    ∙ sym (step_bits-add 8 (8 * n) c) ∙ ap (λ k. step_bits k c) more
