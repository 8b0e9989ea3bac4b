-- Folded bytes stand for the register.
use Rattle.std.proofs.Common.{◌≡◌, ℕ, suc, ◌+◌, ◌*◌, ◌<◌, ◌≤◌, List, [], ◌∷◌, length, take, drop, get_or, bit_xor, refl, sym, ap, ◌∙◌, arith}
use Rattle.std.proofs.lemmas.List.{get_or-drop, drop-drop, length-drop, length-take-le, drop-take}
use Rattle.std.proofs.Math.Seq.{take-suc, drop-cons}
use lib.Bits.{xor_self, xor_zero_r}
use Rattle.std.proofs.lemmas.Nat.{xor_comm}
use Rattle.blog_sum.specs.Crc.{step_bits, register_after}
use Rattle.blog_sum.specs.code.Folding.{sum_of, comes_to, AreFolded, left_by, carried, StandsFor}
use Rattle.blog_sum.proofs.Steps.{xor-turn, xor-twice, step_bits-xor, step_bits-add}
use Rattle.blog_sum.proofs.Bytes.{register_after-append}
use Rattle.blog_sum.proofs.Reach.{sum-xor, step_bits-sum, moves-byte}
use Rattle.blog_sum.proofs.Registers.{step_bits-turn, one-byte, register-apart}

-- ---- the folded bytes a place on

-- of d + 1 bytes the first is left and one more comes
place-on : (d x : ℕ) (y : List ℕ) → d < length y
    → register_after 0 (take (suc d) y) ≡ step_bits 8 (bit_xor (bit_xor (register_after 0 (take (suc d) (x ∷ y))) (step_bits (8 * suc d) x)) (get_or y d 0))
unfolding register_after
place-on d x y few =
    let middle : ℕ = register_after 0 (take d y) in
    let first : ℕ = step_bits (8 * suc d) x in
    let long : 8 + 8 * length (take d y) ≡ 8 * suc d = omega (arith, length-take-le d y (omega arith)) in
    let more : register_after 0 (take (suc d) y) ≡ step_bits 8 (bit_xor middle (get_or y d 0)) =
    ap (register_after 0) (take-suc y d 0 few) ∙ register_after-append 0 (take d y) (get_or y d 0 ∷ []) ∙ one-byte middle (get_or y d 0) in
    let before : register_after 0 (take (suc d) (x ∷ y)) ≡ bit_xor first middle =
    register-apart (step_bits 8 x) (take d y)
    ∙ ap (λ r. bit_xor r middle) (sym (step_bits-add 8 (8 * length (take d y)) x) ∙ ap (λ n. step_bits n x) long) in
    let same : bit_xor (register_after 0 (take (suc d) (x ∷ y))) first ≡ middle = ap (λ r. bit_xor r first) (before ∙ xor_comm first middle) ∙ xor-twice middle first in
    more ∙ ap (λ r. step_bits 8 (bit_xor r (get_or y d 0))) (sym same)

left-on : (d at : ℕ) (w : List ℕ) → suc d + at ≡ 304 → 304 < length w
    → left_by (suc d) at (drop 1 w) ≡ step_bits 8 (bit_xor (bit_xor (left_by (suc d) at w) (step_bits 2432 (get_or w at 0))) (step_bits (8 * at) (get_or w 304 0)))
left-on d at w sum long =
    let x : ℕ = get_or w at 0 in
    let y : List ℕ = drop (suc at) w in
    let z : ℕ = get_or w 304 0 in
    let on : 1 + at ≡ suc at = omega arith in
    let last : suc at + d ≡ 304 = omega arith in
    let steps : 8 * suc d + 8 * at ≡ 2432 = omega arith in
    let here : drop at (drop 1 w) ≡ y = drop-drop at 1 w ∙ ap (λ n. drop n w) on in
    let next : get_or y d 0 ≡ z = get_or-drop (suc at) w d 0 ∙ ap (λ n. get_or w n 0) last in
    let whole : x ∷ y ≡ drop at w = sym (drop-cons w at 0 (omega arith)) in
    let window : ℕ = register_after 0 (take (suc d) (drop at w)) in
    let first : ℕ = step_bits (8 * suc d) x in
    ap (λ l. step_bits (8 * at) (register_after 0 (take (suc d) l))) here
    ∙ ap (step_bits (8 * at)) (place-on d x y (omega (arith, length-drop (suc at) w))
    ∙ (λ i. step_bits 8 (bit_xor (bit_xor (register_after 0 (take (suc d) (whole i))) first) (next i))))
    ∙ step_bits-turn (8 * at) 8 (bit_xor (bit_xor window first) z)
    ∙ ap (step_bits 8) (step_bits-xor (8 * at) (bit_xor window first) z
    ∙ ap (λ r. bit_xor r (step_bits (8 * at) z)) (step_bits-xor (8 * at) window first
    ∙ ap (bit_xor (step_bits (8 * at) window)) (sym (step_bits-add (8 * suc d) (8 * at) x) ∙ ap (λ n. step_bits n x) steps)))

-- what is added to both goes out
both-out : (r s m : ℕ) → bit_xor (bit_xor r s) (bit_xor m s) ≡ bit_xor r m
both-out r s m = xor-turn r s m s ∙ ap (bit_xor (bit_xor r m)) (xor_self s) ∙ xor_zero_r (bit_xor r m)

-- a byte that is folded, and the register after it
byte-on : (w : List ℕ) (register byte : ℕ) → 304 < length w → get_or w 304 0 < 256 → get_or w 304 0 ≡ bit_xor byte (comes_to w 0) → StandsFor w register
    → StandsFor (drop 1 w) (step_bits 8 (bit_xor register byte))
unfolding carried
byte-on w register byte long fits is stands =
    let z : ℕ = get_or w 304 0 in
    let s : ℕ = comes_to w 0 in
    let a : ℕ = get_or w 159 0 in
    let b : ℕ = get_or w 121 0 in
    let c : ℕ = get_or w 93 0 in
    let d : ℕ = get_or w 4 0 in
    let la : ℕ = left_by 145 159 w in
    let lb : ℕ = left_by 183 121 w in
    let lc : ℕ = left_by 211 93 w in
    let ld : ℕ = left_by 300 4 w in
    let all : sum_of (bit_xor (bit_xor la (step_bits 2432 a)) (step_bits 1272 z)) (bit_xor (bit_xor lb (step_bits 2432 b)) (step_bits 968 z))
    (bit_xor (bit_xor lc (step_bits 2432 c)) (step_bits 744 z)) (bit_xor (bit_xor ld (step_bits 2432 d)) (step_bits 32 z))
    ≡ bit_xor (bit_xor (sum_of la lb lc ld) (step_bits 2432 s)) (step_bits 2432 z) =
    sum-xor (bit_xor la (step_bits 2432 a)) (bit_xor lb (step_bits 2432 b)) (bit_xor lc (step_bits 2432 c)) (bit_xor ld (step_bits 2432 d))
    (step_bits 1272 z) (step_bits 968 z) (step_bits 744 z) (step_bits 32 z)
    ∙ (λ i. bit_xor (sum-xor la lb lc ld (step_bits 2432 a) (step_bits 2432 b) (step_bits 2432 c) (step_bits 2432 d) i) (moves-byte z fits i))
    ∙ ap (λ r. bit_xor (bit_xor (sum_of la lb lc ld) r) (step_bits 2432 z)) (sym (step_bits-sum 2432 a b c d)) in
    let one : bit_xor (bit_xor (sum_of la lb lc ld) (step_bits 2432 s)) (step_bits 2432 z) ≡ step_bits 2432 (bit_xor register byte) =
    ap (λ r. bit_xor (bit_xor r (step_bits 2432 s)) (step_bits 2432 z)) stands
    ∙ ap (λ r. bit_xor r (step_bits 2432 z)) (sym (step_bits-xor 2432 register s)) ∙ sym (step_bits-xor 2432 (bit_xor register s) z)
    ∙ ap (λ r. step_bits 2432 (bit_xor (bit_xor register s) r)) is ∙ ap (step_bits 2432) (both-out register s byte) in
    (λ i. sum_of (left-on 144 159 w refl long i) (left-on 182 121 w refl long i) (left-on 210 93 w refl long i) (left-on 299 4 w refl long i))
    ∙ sym (step_bits-sum 8 (bit_xor (bit_xor la (step_bits 2432 a)) (step_bits 1272 z)) (bit_xor (bit_xor lb (step_bits 2432 b)) (step_bits 968 z))
    (bit_xor (bit_xor lc (step_bits 2432 c)) (step_bits 744 z)) (bit_xor (bit_xor ld (step_bits 2432 d)) (step_bits 32 z)))
    ∙ ap (step_bits 8) (all ∙ one) ∙ step_bits-turn 8 2432 (bit_xor register byte)

-- ---- a chunk

-- the places behind the first byte
place-behind : (w : List ℕ) (k n : ℕ) → n ≡ 1 + k → get_or w n 0 ≡ get_or (drop 1 w) k 0
place-behind w k n on = ap (λ m. get_or w m 0) on ∙ sym (get_or-drop 1 w k 0)

folded-on : (b : ℕ) (bytes w : List ℕ) → AreFolded (suc (length bytes)) (b ∷ bytes) w → AreFolded (length bytes) bytes (drop 1 w)
folded-on b bytes w folded k below =
    sym (place-behind w (304 + k) (304 + suc k) (omega arith)) ∙ folded (suc k) (omega arith)
    ∙ (λ i. bit_xor (get_or bytes k 0) (sum_of (place-behind w (k + 159) (suc k + 159) (omega arith) i) (place-behind w (k + 121) (suc k + 121) (omega arith) i)
    (place-behind w (k + 93) (suc k + 93) (omega arith) i) (place-behind w (k + 4) (suc k + 4) (omega arith) i)))

-- the register after bytes that are folded
pub chunk-on : (bytes w : List ℕ) (register : ℕ) → 304 + length bytes ≤ length w → ((k : ℕ) → get_or w k 0 < 256) → AreFolded (length bytes) bytes w → StandsFor w register
    → StandsFor (drop (length bytes) w) (register_after register bytes)
unfolding register_after
chunk-on [] w register fits are folded stands = stands
chunk-on (b ∷ bytes) w register fits are folded stands =
    let more : 1 + length bytes ≡ suc (length bytes) = omega arith in
    let here : StandsFor (drop 1 w) (step_bits 8 (bit_xor register b)) = byte-on w register b (omega arith) (are 304) (folded 0 (omega arith)) stands in
    let are-behind : (k : ℕ) → get_or (drop 1 w) k 0 < 256 = λ k. rw (get_or-drop 1 w k 0) (are (1 + k)) in
    ap carried (sym (drop-drop (length bytes) 1 w ∙ ap (λ n. drop n w) more))
    ∙ chunk-on bytes (drop 1 w) (step_bits 8 (bit_xor register b)) (omega (arith, length-drop 1 w)) are-behind (folded-on b bytes w folded) here

-- only the first 304 bytes count
left-of-front : (d at : ℕ) (w v : List ℕ) → d + at ≡ 304 → take 304 w ≡ take 304 v → left_by d at w ≡ left_by d at v
left-of-front d at w v sum same =
    let places : at + d ≡ 304 = omega arith in
    let front : (l : List ℕ) → take d (drop at l) ≡ drop at (take 304 l) = λ l. sym (ap (λ n. drop at (take n l)) (sym places) ∙ drop-take at d l) in
    ap (λ l. step_bits (8 * at) (register_after 0 l)) (front w ∙ ap (drop at) same ∙ sym (front v))

pub carried-front : (w v : List ℕ) → take 304 w ≡ take 304 v → carried w ≡ carried v
unfolding carried
carried-front w v same =
    λ i. sum_of (left-of-front 145 159 w v refl same i) (left-of-front 183 121 w v refl same i) (left-of-front 211 93 w v refl same i) (left-of-front 300 4 w v refl same i)
