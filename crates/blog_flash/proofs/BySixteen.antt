-- Hexadecimal digits of eight and of sixteen bytes at once.
use Rattle.std.proofs.Common.{◌≡◌, ℕ, suc, ◌+◌, ◌*◌, ◌/◌, ◌%◌, ◌^◌, ◌<◌, ◌≤◌, false, cond, leb, bit_and, List, [], ◌∷◌, ◌++◌, map, length, take, drop, get_or, replicate, refl, sym, ap, subst, ◌∙◌, arith, append_assoc, w8, Fits}
use Rattle.std.proofs.lemmas.Bool.{lt-leb}
use Rattle.std.proofs.lemmas.List.{length-take, length-take-le, length-drop, length-append, take-take, take_at, take_all, take-append-drop, drop-drop}
use Rattle.std.proofs.lemmas.Nat.{and_mask}
use Rattle.std.proofs.lemmas.Slice.{drop-append-drop}
use Rattle.std.proofs.lemmas.Simd.{swz_l, SwzOk, SwzOk-from_below, below_from_Fits, zip2_splat, map-map, put_chunk_is, pick_l_left, pick_l_whole}
use Rattle.std.proofs.Math.Seq.{take-add}
use lib.Lanes.{Each1, zip2, pick_l, put_chunk}
use Rattle.hex.specs.Hex.{encode_with, encode_upper, upper_digits}
use Rattle.hex.proofs.HexLemmas.{length-encode_with}

-- ---- the digits of numbers below sixteen

-- from lane i on
looked-up : (i : ℕ) (v : List ℕ) → Each1 (λ n. n < 16) v → i + length v ≤ 16 → swz_l w8 16 upper_digits i v ≡ map (λ n. get_or upper_digits n 0) v
looked-up i [] are room = refl
looked-up i (x ∷ v) are room =
    let fits : x < 16 = are.0 in
    let here : 16 * (i / 16) + x ≡ x = omega arith in
    let seen : leb 128 x ≡ false = lt-leb 128 x (omega arith) in
    λ k. cond (seen k) 0 (get_or upper_digits (here k) 0) ∷ looked-up (suc i) v are.1 (omega arith) k

pub numbers-fit : (v : List ℕ) → length v ≡ 16 → Each1 (λ n. n < 16) v → SwzOk w8 16 16 0 v
numbers-fit v size are = SwzOk-from_below w8 16 1 16 0 v refl (let long : 0 + length v ≤ 16 = omega arith in long) are

pub digits-are : (v : List ℕ) → length v ≡ 16 → Each1 (λ n. n < 16) v → swz_l w8 16 upper_digits 0 v ≡ map (λ n. get_or upper_digits n 0) v
digits-are v size are = looked-up 0 v are (let long : 0 + length v ≤ 16 = omega arith in long)

-- ---- the two digits of each byte

abbrev down : ℕ → ℕ → ℕ
down a b = a / 2 ^ b

abbrev highs : List ℕ → List ℕ
highs v = zip2 down v (replicate 16 4)

abbrev lows : List ℕ → List ℕ
lows v = zip2 bit_and v (replicate 16 15)

high-lanes : (v : List ℕ) → length v ≡ 16 → highs v ≡ map (λ b. b / 16) v
high-lanes v size = zip2_splat down v 16 4 size

masked : (v : List ℕ) → map (λ b. bit_and b 15) v ≡ map (λ b. b % 16) v
masked [] = refl
masked (b ∷ v) = λ k. and_mask b 4 k ∷ masked v k

low-lanes : (v : List ℕ) → length v ≡ 16 → lows v ≡ map (λ b. b % 16) v
low-lanes v size = zip2_splat bit_and v 16 15 size ∙ masked v

few-high : (v : List ℕ) → Each1 (λ b. b < 256) v → Each1 (λ n. n < 16) (map (λ b. b / 16) v)
few-high [] are = tt
few-high (b ∷ v) are = let fits : b < 256 = are.0 in (omega arith, few-high v are.1)

few-low : (v : List ℕ) → Each1 (λ n. n < 16) (map (λ b. b % 16) v)
few-low [] = tt
few-low (b ∷ v) = (omega arith, few-low v)

pub highs-few : (v : List ℕ) → length v ≡ 16 → Each1 (Fits w8) v → Each1 (λ n. n < 16) (highs v)
highs-few v size fits = subst (Each1 (λ n. n < 16)) (sym (high-lanes v size)) (few-high v (below_from_Fits w8 v fits))

pub lows-few : (v : List ℕ) → length v ≡ 16 → Each1 (λ n. n < 16) (lows v)
lows-few v size = subst (Each1 (λ n. n < 16)) (sym (low-lanes v size)) (few-low v)

pub first-digits : (v : List ℕ) → length v ≡ 16 → map (λ n. get_or upper_digits n 0) (highs v) ≡ map (λ b. get_or upper_digits (b / 16) 0) v
first-digits v size = ap (map (λ n. get_or upper_digits n 0)) (high-lanes v size) ∙ map-map (λ n. get_or upper_digits n 0) (λ b. b / 16) v

pub second-digits : (v : List ℕ) → length v ≡ 16 → map (λ n. get_or upper_digits n 0) (lows v) ≡ map (λ b. get_or upper_digits (b % 16) 0) v
second-digits v size = ap (map (λ n. get_or upper_digits n 0)) (low-lanes v size) ∙ map-map (λ n. get_or upper_digits n 0) (λ b. b % 16) v

-- ---- both digits, byte by byte

abbrev first : List ℕ → List ℕ
first v = map (λ b. get_or upper_digits (b / 16) 0) v

abbrev second : List ℕ → List ℕ
second v = map (λ b. get_or upper_digits (b % 16) 0) v

-- the lanes of two vectors by turns, from the first and from the eighth on
abbrev front-lanes : List ℕ
front-lanes = 0 ∷ 16 ∷ 1 ∷ 17 ∷ 2 ∷ 18 ∷ 3 ∷ 19 ∷ 4 ∷ 20 ∷ 5 ∷ 21 ∷ 6 ∷ 22 ∷ 7 ∷ 23 ∷ []

abbrev back-lanes : List ℕ
back-lanes = 8 ∷ 24 ∷ 9 ∷ 25 ∷ 10 ∷ 26 ∷ 11 ∷ 27 ∷ 12 ∷ 28 ∷ 13 ∷ 29 ∷ 14 ∷ 30 ∷ 15 ∷ 31 ∷ []

-- all lanes in order
abbrev sixteen : List ℕ
sixteen = 0 ∷ 1 ∷ 2 ∷ 3 ∷ 4 ∷ 5 ∷ 6 ∷ 7 ∷ 8 ∷ 9 ∷ 10 ∷ 11 ∷ 12 ∷ 13 ∷ 14 ∷ 15 ∷ []

pub front-is : (v f s : List ℕ) → length v ≡ 16 → f ≡ first v → s ≡ second v → pick_l 0 (f ++ s) front-lanes ≡ encode_upper (take 8 v)
unfolding encode_with
front-is v f s size ef es =
    (λ k. pick_l 0 (ef k ++ es k) front-lanes)
    ∙ subst (λ w. pick_l 0 (first w ++ second w) front-lanes ≡ encode_with upper_digits (take 8 w)) (pick_l_whole 0 v 16 size) refl

pub back-is : (v f s : List ℕ) → length v ≡ 16 → f ≡ first v → s ≡ second v → pick_l 0 (f ++ s) back-lanes ≡ encode_upper (drop 8 v)
unfolding encode_with
back-is v f s size ef es =
    (λ k. pick_l 0 (ef k ++ es k) back-lanes)
    ∙ subst (λ w. pick_l 0 (first w ++ second w) back-lanes ≡ encode_with upper_digits (drop 8 w)) (pick_l_whole 0 v 16 size) refl

-- ---- the digits of parts

encode-append : (t xs ys : List ℕ) → encode_with t (xs ++ ys) ≡ encode_with t xs ++ encode_with t ys
unfolding encode_with
encode-append t [] ys = refl
encode-append t (b ∷ xs) ys = ap (λ l. get_or t (b / 16) 0 ∷ (get_or t (b % 16) 0 ∷ l)) (encode-append t xs ys)

pub encode-nil : [] ≡ encode_upper []
unfolding encode_with
encode-nil = refl

encode-take : (k : ℕ) (xs : List ℕ) → k ≤ length xs → take (2 * k) (encode_upper xs) ≡ encode_upper (take k xs)
encode-take k xs room =
    let front : List ℕ = encode_upper (take k xs) in
    let long : length front ≡ 2 * k = length-encode_with upper_digits (take k xs) ∙ ap (λ n. 2 * n) (length-take-le k xs room) in
    ap (λ l. take (2 * k) (encode_upper l)) (sym (take-append-drop k xs))
    ∙ ap (take (2 * k)) (encode-append upper_digits (take k xs) (drop k xs))
    ∙ take_at front (encode_upper (drop k xs)) (2 * k) long

-- ---- writing them

-- a part over sixteen bytes
pub part-put : (at : ℕ) (to part : List ℕ) → length part ≡ 16 → at + 16 ≤ length to → put_chunk at to part ≡ take at to ++ (part ++ drop (at + 16) to)
part-put at to part size room =
    put_chunk_is at to part (omega arith)
    ∙ ap (λ n. take at to ++ (part ++ drop n (drop at to))) size ∙ ap (λ l. take at to ++ (part ++ l)) (drop-drop 16 at to)

-- eight bytes, and others after them that are not read
pub eight-put : (at : ℕ) (to bytes more part new : List ℕ) → at + 8 ≤ length bytes → part ≡ encode_upper (take 8 (pick_l 0 (take 8 (drop at bytes) ++ more) sixteen))
    → new ≡ take (2 * at) to ++ (part ++ drop (2 * at + 16) to)
    → new ≡ take (2 * at) to ++ (encode_upper (take 8 (drop at bytes)) ++ drop (2 * (at + 8)) to)
eight-put at to bytes more part new room is done =
    let eight : List ℕ = take 8 (drop at bytes) in
    let long : length eight ≡ 8 = length-take-le 8 (drop at bytes) (omega (arith, length-drop at bytes)) in
    let same : part ≡ encode_upper eight = is ∙ ap encode_upper (pick_l_left 0 eight more 8 (take 8 sixteen) long tt ∙ pick_l_whole 0 eight 8 long) in
    let end : 2 * at + 16 ≡ 2 * (at + 8) = omega arith in
    done ∙ (λ k. take (2 * at) to ++ (same k ++ drop (end k) to))

-- two parts, one after the other
two-parts : (p : ℕ) (to mid new f b : List ℕ) → length f ≡ 16 → p + 32 ≤ length to
    → mid ≡ take p to ++ (f ++ drop (p + 16) to) → new ≡ take (p + 16) mid ++ (b ++ drop (p + 16 + 16) mid)
    → new ≡ take p to ++ ((f ++ b) ++ drop (p + 16 + 16) to)
two-parts p to mid new f b size room one two =
    let front : List ℕ = take p to ++ f in
    let long : length front ≡ p + 16 = omega (arith, length-append (take p to) f, length-take-le p to (omega arith)) in
    let so : mid ≡ front ++ drop (p + 16) to = one ∙ sym (append_assoc (take p to) f (drop (p + 16) to)) in
    let before : take (p + 16) mid ≡ front = ap (take (p + 16)) so ∙ take_at front (drop (p + 16) to) (p + 16) long in
    let after : drop (p + 16 + 16) mid ≡ drop (p + 16 + 16) to = ap (drop (p + 16 + 16)) so ∙ drop-append-drop (p + 16) to front (p + 16 + 16) (omega arith) long in
    two ∙ (λ k. before k ++ (b ++ after k)) ∙ append_assoc (take p to) f (b ++ drop (p + 16 + 16) to)
    ∙ ap (λ l. take p to ++ l) (sym (append_assoc f b (drop (p + 16 + 16) to)))

pub sixteen-put : (at : ℕ) (to bytes mid new f b : List ℕ) → length to ≡ 2 * length bytes → at + 16 ≤ length bytes
    → f ≡ encode_upper (take 8 (take 16 (drop at bytes))) → b ≡ encode_upper (drop 8 (take 16 (drop at bytes)))
    → mid ≡ take (2 * at) to ++ (f ++ drop (2 * at + 16) to) → new ≡ take (2 * at + 16) mid ++ (b ++ drop (2 * at + 16 + 16) mid)
    → new ≡ take (2 * at) to ++ (encode_upper (take 16 (drop at bytes)) ++ drop (2 * (at + 16)) to)
sixteen-put at to bytes mid new f b long room ef eb one two =
    let v : List ℕ = take 16 (drop at bytes) in
    let long-v : length v ≡ 16 = length-take-le 16 (drop at bytes) (omega (arith, length-drop at bytes)) in
    let size : length f ≡ 16 = ap length ef ∙ length-encode_with upper_digits (take 8 v) ∙ ap (λ n. 2 * n) (length-take-le 8 v (omega arith)) in
    let both : f ++ b ≡ encode_upper v =
    (λ k. ef k ++ eb k) ∙ sym (encode-append upper_digits (take 8 v) (drop 8 v)) ∙ ap encode_upper (take-append-drop 8 v) in
    let end : 2 * at + 16 + 16 ≡ 2 * (at + 16) = omega arith in
    two-parts (2 * at) to mid new f b size (omega arith) one two ∙ (λ k. take (2 * at) to ++ (both k ++ drop (end k) to))

-- n bytes from a place on, where the digits of those before it stand
pub covered : (n k i : ℕ) (bytes to new : List ℕ) → k + n ≤ length bytes → k ≤ i → take (2 * i) to ≡ encode_upper (take i bytes)
    → new ≡ take (2 * k) to ++ (encode_upper (take n (drop k bytes)) ++ drop (2 * (k + n)) to)
    → take (2 * (k + n)) new ≡ encode_upper (take (k + n) bytes)
covered n k i bytes to new room le before done =
    let more : List ℕ = encode_upper (take n (drop k bytes)) in
    let start : take (2 * k) to ≡ encode_upper (take k bytes) =
    sym (take-take (2 * k) (2 * i) to (omega arith)) ∙ ap (take (2 * k)) before
    ∙ encode-take k (take i bytes) (omega (arith, length-take i bytes)) ∙ ap encode_upper (take-take k i bytes le) in
    let written : take (2 * k) to ++ more ≡ encode_upper (take (k + n) bytes) =
    ap (λ l. l ++ more) start ∙ sym (encode-append upper_digits (take k bytes) (take n (drop k bytes))) ∙ ap encode_upper (sym (take-add k n bytes)) in
    let long : length (take (2 * k) to ++ more) ≡ 2 * (k + n) =
    ap length written ∙ length-encode_with upper_digits (take (k + n) bytes) ∙ ap (λ m. 2 * m) (length-take-le (k + n) bytes room) in
    ap (take (2 * (k + n))) (done ∙ sym (append_assoc (take (2 * k) to) more (drop (2 * (k + n)) to)))
    ∙ take_at (take (2 * k) to ++ more) (drop (2 * (k + n)) to) (2 * (k + n)) long ∙ written

-- all bytes
pub whole : (m : ℕ) (bytes new : List ℕ) → m ≡ length bytes → length new ≡ 2 * length bytes → take (2 * m) new ≡ encode_upper (take m bytes) → new ≡ encode_upper bytes
whole m bytes new all long are =
    sym (take_all (2 * m) new (omega arith)) ∙ are ∙ ap encode_upper (take_all m bytes (omega arith))
