-- The bytes that are not folded take what the folded bytes have for them.
use Rattle.std.proofs.Common.{◌≡◌, ℕ, ◌+◌, ◌*◌, ◌≤◌, List, length, take, drop, replicate, bit_xor, refl, sym, ap, ◌∙◌, arith}
use Rattle.std.proofs.lemmas.List.{drop-drop, length-take-le, take-take, take-replicate}
use Rattle.std.proofs.Math.Seq.{take-add}
use Rattle.std.proofs.lemmas.Nat.{xor_comm}
use Rattle.std.proofs.lemmas.Simd.{length-chunk}
use lib.Lanes.{zip2}
use Rattle.blog_sum.specs.Crc.{step_bits, register_after}
use Rattle.blog_sum.specs.code.Folding.{sum_of, folded_at, left_by, carried, StandsFor}
use Rattle.blog_sum.proofs.Bytes.{register_after-append}
use Rattle.blog_sum.proofs.Chunks.{two-long}
use Rattle.blog_sum.proofs.Registers.{register-apart, together, after-zeros}

-- the register after the first n bytes, with what comes to them
abbrev pub rest_after : ℕ → List ℕ → List ℕ → ℕ
rest_after n bytes w =
    bit_xor (register_after 0 (take n bytes))
    (sum_of (register_after 0 (take n (drop 159 w))) (register_after 0 (take n (drop 121 w))) (register_after 0 (take n (drop 93 w))) (register_after 0 (take n (drop 4 w))))

-- ---- sixteen bytes more

more-of : (n : ℕ) (l : List ℕ) → register_after (register_after 0 (take n l)) (take 16 (drop n l)) ≡ register_after 0 (take (n + 16) l)
more-of n l = sym (register_after-append 0 (take n l) (take 16 (drop n l))) ∙ ap (register_after 0) (sym (take-add n 16 l))

more-at : (n at : ℕ) (w : List ℕ) → register_after (register_after 0 (take n (drop at w))) (take 16 (drop (n + at) w)) ≡ register_after 0 (take (n + 16) (drop at w))
more-at n at w =
    let turned : n + at ≡ at + n = omega arith in
    ap (λ l. register_after (register_after 0 (take n (drop at w))) (take 16 l)) (ap (λ k. drop k w) turned ∙ sym (drop-drop n at w)) ∙ more-of n (drop at w)

pub rest-more : (n m : ℕ) (bytes w block : List ℕ) (register : ℕ) → m ≡ n + 16 → m ≤ length bytes → n + 304 ≤ length w → block ≡ folded_at n bytes w
    → register ≡ rest_after n bytes w → register_after register block ≡ rest_after m bytes w
rest-more n m bytes w block register sum room reach is so_far =
    let xs : List ℕ = take 16 (drop n bytes) in
    let a : List ℕ = take 16 (drop (n + 159) w) in
    let b : List ℕ = take 16 (drop (n + 121) w) in
    let c : List ℕ = take 16 (drop (n + 93) w) in
    let d : List ℕ = take 16 (drop (n + 4) w) in
    let long_x : length xs ≡ 16 = length-chunk n 16 bytes (omega arith) in
    let long_a : length a ≡ 16 = length-chunk (n + 159) 16 w (omega arith) in
    let long_b : length b ≡ 16 = length-chunk (n + 121) 16 w (omega arith) in
    let long_c : length c ≡ 16 = length-chunk (n + 93) 16 w (omega arith) in
    let long_d : length d ≡ 16 = length-chunk (n + 4) 16 w (omega arith) in
    let ra : ℕ = register_after 0 (take n (drop 159 w)) in
    let rb : ℕ = register_after 0 (take n (drop 121 w)) in
    let rc : ℕ = register_after 0 (take n (drop 93 w)) in
    let rd : ℕ = register_after 0 (take n (drop 4 w)) in
    let long_ab : length (zip2 bit_xor a b) ≡ 16 = two-long a b long_a long_b in
    let long_cd : length (zip2 bit_xor c d) ≡ 16 = two-long c d long_c long_d in
    (λ i. register_after (so_far i) (is i))
    ∙ together (register_after 0 (take n bytes)) (sum_of ra rb rc rd) xs (zip2 bit_xor (zip2 bit_xor a b) (zip2 bit_xor c d)) (long_x ∙ sym (two-long _ _ long_ab long_cd))
    ∙ (λ i. bit_xor (more-of n bytes i) (together (bit_xor ra rb) (bit_xor rc rd) (zip2 bit_xor a b) (zip2 bit_xor c d) (long_ab ∙ sym long_cd) i))
    ∙ ap (bit_xor (register_after 0 (take (n + 16) bytes)))
    ((λ i. bit_xor (together ra rb a b (long_a ∙ sym long_b) i) (together rc rd c d (long_c ∙ sym long_d) i))
    ∙ (λ i. sum_of (more-at n 159 w i) (more-at n 121 w i) (more-at n 93 w i) (more-at n 4 w i)))
    ∙ ap (λ k. rest_after k bytes w) (sym sum)

-- ---- the whole rest

-- zeros behind the folded bytes
left-is : (d at : ℕ) (w : List ℕ) → d + at ≡ 304 → take 304 (drop 304 w) ≡ replicate 304 0 → register_after 0 (take 304 (drop at w)) ≡ left_by d at w
left-is d at w sum none =
    let places : at + d ≡ 304 = omega arith in
    let behind : take at (drop d (drop at w)) ≡ replicate at 0 =
    ap (take at) (drop-drop d at w ∙ ap (λ n. drop n w) places) ∙ sym (take-take at 304 (drop 304 w) (omega arith)) ∙ ap (take at) none ∙ take-replicate at 304 0 (omega arith) in
    ap (λ n. register_after 0 (take n (drop at w))) (sym sum) ∙ ap (register_after 0) (take-add d at (drop at w))
    ∙ register_after-append 0 (take d (drop at w)) (take at (drop d (drop at w))) ∙ ap (register_after (register_after 0 (take d (drop at w)))) behind
    ∙ after-zeros at (register_after 0 (take d (drop at w)))

pub rest-is : (bytes w : List ℕ) (register : ℕ) → 304 ≤ length bytes → take 304 (drop 304 w) ≡ replicate 304 0 → StandsFor w register
    → rest_after 304 bytes w ≡ register_after register (take 304 bytes)
unfolding carried
rest-is bytes w register long none stands =
    let size : 8 * length (take 304 bytes) ≡ 2432 = omega (arith, length-take-le 304 bytes long) in
    let own : ℕ = register_after 0 (take 304 bytes) in
    ap (bit_xor own) ((λ i. sum_of (left-is 145 159 w refl none i) (left-is 183 121 w refl none i) (left-is 211 93 w refl none i) (left-is 300 4 w refl none i)) ∙ stands)
    ∙ xor_comm own (step_bits 2432 register)
    ∙ sym (register-apart register (take 304 bytes) ∙ ap (λ n. bit_xor (step_bits n register) own) size)
