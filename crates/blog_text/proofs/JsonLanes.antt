-- Bytes that need an escape, found sixteen at a time.
use Rattle.std.specs.List.{prefix_len}
use Rattle.std.proofs.Common.{◌≡◌, ℕ, ◌+◌, ◌*◌, ◌^◌, ◌%◌, ◌<◌, ◌≤◌, ltb, eqb, Bool, true, false, not, cond, ◌||◌, List, [], ◌∷◌, map, length, drop, replicate, refl, sym, ap, ap₂, ◌∙◌, arith}
use Rattle.std.proofs.lemmas.Simd.{chunk-drop, leading_from_mask_l, length-chunk, mask_l-mod, trailing_mask_l, zip2_of_maps, zip2_splat}
use Rattle.std.proofs.lemmas.List.{length-map}
use Rattle.std.proofs.lemmas.List.Folds.{prefix_len-append}
use Rattle.std.proofs.lemmas.List.Sums.{prefix_len-le-length}
use Rattle.std.proofs.lemmas.Bool.{eq-eqb, ne_eqb}
use lib.Bits.{bit_or}
use lib.Count.{count_trailing_zeros}
use lib.Lanes.{chunk, mask_l, top, zip2}
use Rattle.blog_text.specs.code.JsonBytes.{is_escaped, is_literal}

abbrev hit : ℕ → ℕ → ℕ
hit a b = cond (eqb a b) 255 0

abbrev below : ℕ → ℕ → ℕ
below a b = cond (ltb a b) 255 0

any-lane : (x y z : Bool) → top 7 (bit_or (bit_or (cond x 255 0) (cond y 255 0)) (cond z 255 0)) ≡ (x || y || z)
any-lane true true true = refl
any-lane true true false = refl
any-lane true false true = refl
any-lane true false false = refl
any-lane false true true = refl
any-lane false true false = refl
any-lane false false true = refl
any-lane false false false = refl

-- the three tests of a lane
abbrev lane : ℕ → ℕ
lane byte = bit_or (bit_or (hit byte 34) (hit byte 92)) (below byte 32)

lanes-escaped : (v : List ℕ) → map (top 7) (map lane v) ≡ map is_escaped v
lanes-escaped [] = refl
lanes-escaped (byte ∷ v) = ap₂ (λ a b. a ∷ b) (any-lane (eqb byte 34) (eqb byte 92) (ltb byte 32)) (lanes-escaped v)

-- the mask of the bytes that need an escape
pub escaped-lanes : (v : List ℕ) → length v ≡ 16
    → mask_l (map (top 7) (zip2 bit_or (zip2 bit_or (zip2 hit v (replicate 16 34)) (zip2 hit v (replicate 16 92))) (zip2 below v (replicate 16 32)))) % 2 ^ 64
    ≡ mask_l (map is_escaped v)
escaped-lanes v long =
    let all =
    zip2_of_maps bit_or _ _ v (zip2_of_maps bit_or _ _ v (zip2_splat hit v 16 34 long) (zip2_splat hit v 16 92 long)) (zip2_splat below v 16 32 long) in
    ap (λ (l : List ℕ). mask_l (map (top 7) l) % 2 ^ 64) all
    ∙ ap (λ (l : List Bool). mask_l l % 2 ^ 64) (lanes-escaped v)
    ∙ mask_l-mod (map is_escaped v) 64 (omega (arith, length-map v is_escaped))

-- a lane that is a run's end shows in the mask
none-ends : (b : Bool) (n l m : ℕ) → n ≤ l → cond (not b) (1 + n) 0 ≡ 1 + l → (n ≡ l → m ≡ 0) → cond b 1 0 + 2 * m ≡ 0
none-ends true n l m le e rest = let no : ⊥ = omega arith in absurd no
none-ends false n l m le e rest = let none = rest (omega arith) in omega arith

no-mask : (xs : List ℕ) → prefix_len is_literal xs ≡ length xs → mask_l (map is_escaped xs) ≡ 0
no-mask [] e = refl
no-mask (x ∷ xs) e = none-ends (is_escaped x) _ (length xs) _ (prefix_len-le-length is_literal xs) (omega arith) (no-mask xs)

run-split : (text : List ℕ) (i : ℕ) → prefix_len is_literal (drop i text)
    ≡ cond (eqb (prefix_len is_literal (chunk i 16 text)) (length (chunk i 16 text))) (length (chunk i 16 text) + prefix_len is_literal (drop (i + 16) text)) (prefix_len is_literal (chunk i 16 text))
run-split text i = ap (prefix_len is_literal) (chunk-drop i 16 text) ∙ prefix_len-append is_literal (chunk i 16 text) (drop (i + 16) text)

-- a run goes on through sixteen bytes
pub run-through : (text : List ℕ) (i : ℕ) → i + 16 ≤ length text → mask_l (map is_escaped (chunk i 16 text)) ≡ 0
    → prefix_len is_literal (drop i text) ≡ 16 + prefix_len is_literal (drop (i + 16) text)
run-through text i room none =
    let c = chunk i 16 text in
    run-split text i
    ∙ ap (λ (b : Bool). cond b (length c + prefix_len is_literal (drop (i + 16) text)) (prefix_len is_literal c)) (eq-eqb _ _ (leading_from_mask_l is_escaped c none))
    ∙ ap (λ (k : ℕ). k + prefix_len is_literal (drop (i + 16) text)) (length-chunk i 16 text room)

-- or ends in them
pub run-ends : (text : List ℕ) (i : ℕ) → i + 16 ≤ length text → 0 < mask_l (map is_escaped (chunk i 16 text))
    → prefix_len is_literal (drop i text) ≡ count_trailing_zeros 64 (mask_l (map is_escaped (chunk i 16 text)))
run-ends text i room some =
    let c = chunk i 16 text in
    run-split text i
    ∙ ap (λ (b : Bool). cond b (length c + prefix_len is_literal (drop (i + 16) text)) (prefix_len is_literal c))
    (ne_eqb _ _ (λ (e : prefix_len is_literal c ≡ length c). omega (arith, no-mask c e)))
    ∙ sym (trailing_mask_l is_escaped 64 c (omega (arith, length-chunk i 16 text room)) some)
