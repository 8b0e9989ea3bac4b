-- A scratch of zeros stands for the register that is written into its front.
use Rattle.std.proofs.Common.{◌≡◌, ℕ, zero, suc, ◌+◌, ◌-◌, ◌*◌, ◌^◌, ◌<◌, ◌≤◌, List, [], ◌∷◌, ◌++◌, take, drop, get_or, replicate, refl, sym, ap, ◌∙◌, arith, append-nil}
use Rattle.std.proofs.lemmas.List.{drop-drop, take-replicate, drop-replicate}
use Rattle.byteorder.specs.Endian.{little_bytes}
use Rattle.byteorder.specs.Numbers.{little_number-reads_back}
use Rattle.blog_sum.specs.Crc.{step_bits, register_after}
use Rattle.blog_sum.specs.code.Folding.{sum_of, left_by, carried, StandsFor}
use Rattle.blog_sum.proofs.Steps.{step_bits-add}
use Rattle.blog_sum.proofs.Bytes.{first-word}
use Rattle.blog_sum.proofs.Registers.{step_bits-none, after-zeros}

-- zeros are bytes
zero-at : (n i : ℕ) → get_or {A = ℕ} (replicate n 0) i 0 ≡ 0
zero-at zero i = refl
zero-at (suc n) zero = refl
zero-at (suc n) (suc i) = zero-at n i

are-bytes : (n r i : ℕ) → get_or (little_bytes 4 r ++ replicate n 0) i 0 < 256
are-bytes n r zero = omega arith
are-bytes n r (suc zero) = omega arith
are-bytes n r (suc (suc zero)) = omega arith
are-bytes n r (suc (suc (suc zero))) = omega arith
are-bytes n r (suc (suc (suc (suc i)))) = omega (arith, zero-at n i)

-- four bytes and zeros
four-and-zeros : (n r : ℕ) → r < 2 ^ 32 → register_after 0 (little_bytes 4 r ++ replicate n 0) ≡ step_bits (32 + 8 * n) r
four-and-zeros n r fits =
    first-word 0 (little_bytes 4 r ++ replicate n 0) (are-bytes n r) (omega arith)
    ∙ ap (λ x. register_after (step_bits 32 x) (replicate n 0)) (little_number-reads_back 4 r (replicate n 0) fits)
    ∙ after-zeros n (step_bits 32 r) ∙ sym (step_bits-add 32 (8 * n) r)

-- zeros alone
zeros-left : (d at k m : ℕ) (w : List ℕ) → at ≡ 8 + k → d + k ≤ m → drop 8 w ≡ replicate m 0 → left_by d at w ≡ 0
zeros-left d at k m w on room none =
    let here : drop at w ≡ replicate (m - k) 0 = ap (λ n. drop n w) on ∙ sym (drop-drop k 8 w) ∙ ap (drop k) none ∙ drop-replicate k m 0 in
    ap (λ l. step_bits (8 * at) (register_after 0 l)) (ap (take d) here ∙ take-replicate d (m - k) 0 (omega arith))
    ∙ ap (step_bits (8 * at)) (after-zeros d 0 ∙ step_bits-none (8 * d)) ∙ step_bits-none (8 * at)

four-left : (m r : ℕ) (w : List ℕ) → r < 2 ^ 32 → 600 ≤ m → drop 4 w ≡ little_bytes 4 r ++ replicate m 0 → left_by 300 4 w ≡ step_bits 2432 r
four-left m r w fits room is =
    ap (λ l. step_bits 32 (register_after 0 l)) (ap (take 300) is ∙ ap (λ l. little_bytes 4 r ++ l) (take-replicate 296 m 0 (omega arith)))
    ∙ ap (step_bits 32) (four-and-zeros 296 r fits) ∙ sym (step_bits-add 2400 32 r)

pub begins : (m r : ℕ) (buf : List ℕ) → r < 2 ^ 32 → 600 ≤ m → buf ≡ little_bytes 4 r ++ replicate m 0 → StandsFor (0 ∷ 0 ∷ 0 ∷ 0 ∷ (buf ++ [])) r
unfolding carried
begins m r buf fits room is =
    let w : List ℕ = 0 ∷ 0 ∷ 0 ∷ 0 ∷ (buf ++ []) in
    let four : drop 4 w ≡ little_bytes 4 r ++ replicate m 0 = append-nil buf ∙ is in
    let none : drop 8 w ≡ replicate m 0 = sym (drop-drop 4 4 w) ∙ ap (drop 4) four in
    (λ i. sum_of (zeros-left 145 159 151 m w refl (omega arith) none i) (zeros-left 183 121 113 m w refl (omega arith) none i)
    (zeros-left 211 93 85 m w refl (omega arith) none i) (four-left m r w fits room four i))
