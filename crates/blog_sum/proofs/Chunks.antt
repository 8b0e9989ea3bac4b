-- A chunk is folded, part by part, and its last folded bytes are kept.
use Rattle.std.proofs.Common.{◌≡◌, ℕ, zero, suc, ◌+◌, ◌-◌, ◌<◌, ◌≤◌, ◌⊎◌, inl, inr, List, [], ◌∷◌, ◌++◌, length, take, drop, get_or, bit_xor, refl, sym, ap, subst, ◌∙◌, arith}
use Rattle.std.proofs.lemmas.List.{drop-drop, take_at}
use Rattle.std.proofs.Math.Seq.{take-add}
use Rattle.std.proofs.lemmas.Bool.{cases_lt}
use Rattle.std.proofs.lemmas.Simd.{get_or-chunk, length-chunk, get_or-zip2, length-zip2, get_or-put_chunk_below, get_or-put_chunk_at, take_more_put_chunk}
use lib.Lanes.{zip2, put_chunk}
use Rattle.blog_sum.specs.code.Folding.{sum_of, comes_to, AreFolded, folded_at}

-- ---- sixteen bytes, folded

-- one of sixteen bytes
byte-of : (w : List ℕ) (at j : ℕ) → at + 16 ≤ length w → j < 16 → get_or (take 16 (drop at w)) j 0 ≡ get_or w (at + j) 0
byte-of w at j room few = get_or-chunk at 16 w j 0 few

-- the sum of two lists of sixteen bytes
two-at : (xs ys : List ℕ) (j : ℕ) → length xs ≡ 16 → length ys ≡ 16 → j < 16 → get_or (zip2 bit_xor xs ys) j 0 ≡ bit_xor (get_or xs j 0) (get_or ys j 0)
two-at xs ys j long_x long_y few = get_or-zip2 bit_xor xs ys j 0 0 0 (omega (arith, long_x)) (omega (arith, long_y))

pub two-long : (xs ys : List ℕ) → length xs ≡ 16 → length ys ≡ 16 → length (zip2 bit_xor xs ys) ≡ 16
two-long xs ys long_x long_y = length-zip2 bit_xor xs ys (long_x ∙ sym long_y) ∙ long_x

folded-is : (at : ℕ) (bytes w : List ℕ) (j : ℕ) → at + 16 ≤ length bytes → at + 304 ≤ length w → j < 16
    → get_or (folded_at at bytes w) j 0
    ≡ bit_xor (get_or bytes (at + j) 0) (sum_of (get_or w (at + 159 + j) 0) (get_or w (at + 121 + j) 0) (get_or w (at + 93 + j) 0) (get_or w (at + 4 + j) 0))
folded-is at bytes w j room reach few =
    let xs : List ℕ = take 16 (drop at bytes) in
    let a : List ℕ = take 16 (drop (at + 159) w) in
    let b : List ℕ = take 16 (drop (at + 121) w) in
    let c : List ℕ = take 16 (drop (at + 93) w) in
    let d : List ℕ = take 16 (drop (at + 4) w) in
    let long_x : length xs ≡ 16 = length-chunk at 16 bytes room in
    let long_a : length a ≡ 16 = length-chunk (at + 159) 16 w (omega arith) in
    let long_b : length b ≡ 16 = length-chunk (at + 121) 16 w (omega arith) in
    let long_c : length c ≡ 16 = length-chunk (at + 93) 16 w (omega arith) in
    let long_d : length d ≡ 16 = length-chunk (at + 4) 16 w (omega arith) in
    let ab : List ℕ = zip2 bit_xor a b in
    let cd : List ℕ = zip2 bit_xor c d in
    let long_ab : length ab ≡ 16 = two-long a b long_a long_b in
    let long_cd : length cd ≡ 16 = two-long c d long_c long_d in
    two-at xs (zip2 bit_xor ab cd) j long_x (two-long ab cd long_ab long_cd) few
    ∙ (λ i. bit_xor (byte-of bytes at j room few i) (two-at ab cd j long_ab long_cd few i))
    ∙ (λ i. bit_xor (get_or bytes (at + j) 0) (bit_xor (two-at a b j long_a long_b few i) (two-at c d j long_c long_d few i)))
    ∙ (λ i. bit_xor (get_or bytes (at + j) 0) (sum_of (get_or-chunk (at + 159) 16 w j 0 few i) (get_or-chunk (at + 121) 16 w j 0 few i) (get_or-chunk (at + 93) 16 w j 0 few i) (get_or-chunk (at + 4) 16 w j 0 few i)))

pub folded-long : (at : ℕ) (bytes w : List ℕ) → at + 16 ≤ length bytes → at + 304 ≤ length w → length (folded_at at bytes w) ≡ 16
folded-long at bytes w room reach =
    let long_a : length (take 16 (drop (at + 159) w)) ≡ 16 = length-chunk (at + 159) 16 w (omega arith) in
    let long_b : length (take 16 (drop (at + 121) w)) ≡ 16 = length-chunk (at + 121) 16 w (omega arith) in
    let long_c : length (take 16 (drop (at + 93) w)) ≡ 16 = length-chunk (at + 93) 16 w (omega arith) in
    let long_d : length (take 16 (drop (at + 4) w)) ≡ 16 = length-chunk (at + 4) 16 w (omega arith) in
    two-long _ _ (length-chunk at 16 bytes room) (two-long _ _ (two-long _ _ long_a long_b) (two-long _ _ long_c long_d))

-- ---- a part more

-- what comes to a byte stays when a part is put behind it
comes-same : (n k : ℕ) (w part : List ℕ) → k < n + 16 → comes_to (put_chunk (304 + n) w part) k ≡ comes_to w k
comes-same n k w part h =
    λ i. sum_of (get_or-put_chunk_below (304 + n) w part (k + 159) 0 (omega arith) i) (get_or-put_chunk_below (304 + n) w part (k + 121) 0 (omega arith) i)
    (get_or-put_chunk_below (304 + n) w part (k + 93) 0 (omega arith) i) (get_or-put_chunk_below (304 + n) w part (k + 4) 0 (omega arith) i)

-- a byte of the part
fold-here : (n j : ℕ) (bytes w part : List ℕ) → length part ≡ 16 → n + 16 ≤ length bytes → 304 + n + 16 ≤ length w → part ≡ folded_at n bytes w → j < 16
    → get_or (put_chunk (304 + n) w part) (304 + (n + j)) 0 ≡ bit_xor (get_or bytes (n + j) 0) (comes_to (put_chunk (304 + n) w part) (n + j))
fold-here n j bytes w part long room fits is few =
    let place : 304 + (n + j) ≡ 304 + n + j = omega arith in
    let p1 : n + 159 + j ≡ n + j + 159 = omega arith in
    let p2 : n + 121 + j ≡ n + j + 121 = omega arith in
    let p3 : n + 93 + j ≡ n + j + 93 = omega arith in
    let p4 : n + 4 + j ≡ n + j + 4 = omega arith in
    let put : get_or (put_chunk (304 + n) w part) (304 + n + j) 0 ≡ get_or part j 0 = get_or-put_chunk_at (304 + n) w part j 0 (omega (arith, long)) (omega (arith, long)) in
    ap (λ q. get_or (put_chunk (304 + n) w part) q 0) place ∙ put ∙ ap (λ l. get_or l j 0) is
    ∙ folded-is n bytes w j room (omega arith) few
    ∙ (λ i. bit_xor (get_or bytes (n + j) 0) (sum_of (get_or w (p1 i) 0) (get_or w (p2 i) 0) (get_or w (p3 i) 0) (get_or w (p4 i) 0)))
    ∙ ap (bit_xor (get_or bytes (n + j) 0)) (sym (comes-same n (n + j) w part (omega arith)))

pub fold-more : (n m : ℕ) (bytes w part new : List ℕ) → m ≡ n + 16 → length part ≡ 16 → m ≤ length bytes → 304 + m ≤ length w → part ≡ folded_at n bytes w → new ≡ put_chunk (304 + n) w part
    → AreFolded n bytes w → AreFolded m bytes new
fold-more n m bytes w part new sum long room fits is done before k below =
    ap (λ l. get_or l (304 + k) 0) done ∙ by_case (cases_lt k n) ∙ ap (λ l. bit_xor (get_or bytes k 0) (comes_to l k)) (sym done)
  where
    by_case : (k < n) ⊎ (n ≤ k) → get_or (put_chunk (304 + n) w part) (304 + k) 0 ≡ bit_xor (get_or bytes k 0) (comes_to (put_chunk (304 + n) w part) k)
    by_case (inl h) =
        get_or-put_chunk_below (304 + n) w part (304 + k) 0 (omega arith) ∙ before k h
        ∙ ap (bit_xor (get_or bytes k 0)) (sym (comes-same n k w part (omega arith)))
    by_case (inr h) =
        let place : n + (k - n) ≡ k = omega arith in
        subst (λ q. get_or (put_chunk (304 + n) w part) (304 + q) 0 ≡ bit_xor (get_or bytes q 0) (comes_to (put_chunk (304 + n) w part) q)) place
        (fold-here n (k - n) bytes w part long (omega arith) (omega arith) is (omega arith))

-- ---- what a part leaves as it is

before-part : (n i : ℕ) (w part : List ℕ) → n ≤ i → take n (put_chunk i w part) ≡ take n w
before-part zero i w part h = refl
before-part (suc n) zero w part h = absurd (omega arith)
before-part (suc n) (suc i) [] part h = refl
before-part (suc n) (suc i) (x ∷ w) part h = ap (λ l. x ∷ l) (before-part n i w part (omega arith))

behind-part : (i m : ℕ) (w part : List ℕ) → i + length part ≤ m → drop m (put_chunk i w part) ≡ drop m w
behind-part zero m [] part h = refl
behind-part zero m (x ∷ w) [] h = refl
behind-part zero zero (x ∷ w) (y ∷ part) h = absurd (omega arith)
behind-part zero (suc m) (x ∷ w) (y ∷ part) h = behind-part zero m w part (omega arith)
behind-part (suc i) m [] part h = refl
behind-part (suc i) zero (x ∷ w) part h = absurd (omega arith)
behind-part (suc i) (suc m) (x ∷ w) part h = behind-part i m w part (omega arith)

pub front-stays : (n : ℕ) (w w0 part new : List ℕ) → new ≡ put_chunk (304 + n) w part → take 304 w ≡ take 304 w0 → take 304 new ≡ take 304 w0
front-stays n w w0 part new done same = ap (take 304) done ∙ before-part 304 (304 + n) w part (omega arith) ∙ same

-- ---- the last folded bytes are moved

-- a part more is moved to n
pub moved-more : (n m from : ℕ) (w w0 part new : List ℕ) → m ≡ n + 16 → length part ≡ 16 → m ≤ length w → part ≡ take 16 (drop (from + n) w) → new ≡ put_chunk n w part
    → take n w ≡ take n (drop from w0) → drop n w ≡ drop n w0 → take m new ≡ take m (drop from w0)
moved-more n m from w w0 part new sum long room is done moved left =
    let turned : from + n ≡ n + from = omega arith in
    let here : drop (from + n) w ≡ drop n (drop from w0) =
    ap (λ q. drop q w) turned ∙ sym (drop-drop from n w) ∙ ap (drop from) left ∙ drop-drop from n w0 ∙ ap (λ q. drop q w0) (sym turned) ∙ sym (drop-drop n from w0) in
    ap (take m) done ∙ take_more_put_chunk n w part m (sum ∙ ap (λ q. n + q) (sym long)) room
    ∙ (λ i. moved i ++ (is ∙ ap (take 16) here) i)
    ∙ sym (take-add n 16 (drop from w0)) ∙ ap (λ q. take q (drop from w0)) (sym sum)

pub left-more : (n m : ℕ) (w w0 part new : List ℕ) → m ≡ n + 16 → length part ≡ 16 → new ≡ put_chunk n w part → drop n w ≡ drop n w0 → drop m new ≡ drop m w0
left-more n m w w0 part new sum long done left =
    ap (drop m) done ∙ behind-part n m w part (omega (arith, long)) ∙ ap (λ q. drop q w) sum ∙ sym (drop-drop 16 n w) ∙ ap (drop 16) left ∙ drop-drop 16 n w0
    ∙ ap (λ q. drop q w0) (sym sum)

pub kept-front : (from : ℕ) (w new : List ℕ) → from + 304 ≤ length w → new ≡ take 304 (drop from w) ++ drop 304 w → take 304 new ≡ take 304 (drop from w)
kept-front from w new room done =
    ap (take 304) done ∙ take_at (take 304 (drop from w)) (drop 304 w) 304 (length-chunk from 304 w room)
