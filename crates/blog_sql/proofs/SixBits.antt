-- Twelve bytes as sixteen numbers of six bits, two bytes at a time.
use Rattle.std.proofs.Common.{◌≡◌, ℕ, zero, suc, ◌+◌, ◌*◌, ◌/◌, ◌%◌, ◌^◌, ◌<◌, ◌≤◌, List, [], ◌∷◌, ◌++◌, length, take, get_or, refl, ap, ◌∙◌, arith, w8, Fits}
use Rattle.std.proofs.lemmas.Simd.{Each1-zip2, Each2-all, pick_l_left, pick_l-range_with_len}
use lib.Lanes.{Each1, zip2, pick_l, number_l, digits_l}
use Rattle.blog_sql.specs.code.FullLine.{sixes}

-- ---- lanes of another width

-- two bytes make a wider number
abbrev two-by-two : List ℕ → List ℕ
two-by-two [] = []
two-by-two (a ∷ []) = []
two-by-two (a ∷ b ∷ rest) = (a + 256 * b) ∷ two-by-two rest

-- the length of a list of pairs
abbrev twice : ℕ → ℕ
twice zero = zero
twice (suc n) = suc (suc (twice n))

widened : (n : ℕ) (xs : List ℕ) → Each1 (λ x. x < 256) xs → length xs ≡ twice n → digits_l 65536 n (number_l 256 xs) ≡ two-by-two xs
widened zero [] are size = refl
widened zero (a ∷ xs) are size = absurd (omega arith)
widened (suc n) [] are size = absurd (omega arith)
widened (suc n) (a ∷ []) are size = absurd (omega arith)
widened (suc n) (a ∷ b ∷ rest) are size =
    let high : ℕ = number_l 256 rest in
    let fits-a : a < 256 = are.0 in
    let fits-b : b < 256 = are.1.0 in
    let low : (a + 256 * (b + 256 * high)) % 65536 ≡ a + 256 * b = omega arith in
    let others : (a + 256 * (b + 256 * high)) / 65536 ≡ high = omega arith in
    (λ i. low i ∷ digits_l 65536 n (others i)) ∙ ap (λ l. (a + 256 * b) ∷ l) (widened n rest are.1.1 (omega arith))

-- a wider number is two bytes
abbrev halves : List ℕ → List ℕ
halves [] = []
halves (w ∷ ws) = (w % 256) ∷ ((w / 256) ∷ halves ws)

narrowed : (n : ℕ) (ws : List ℕ) → Each1 (λ w. w < 65536) ws → length ws ≡ n → digits_l 256 (twice n) (number_l 65536 ws) ≡ halves ws
narrowed zero [] are size = refl
narrowed zero (w ∷ ws) are size = absurd (omega arith)
narrowed (suc n) [] are size = absurd (omega arith)
narrowed (suc n) (w ∷ ws) are size =
    let high : ℕ = number_l 65536 ws in
    let fits : w < 65536 = are.0 in
    let first : (w + 65536 * high) % 256 ≡ w % 256 = omega arith in
    let second : (w + 65536 * high) / 256 % 256 ≡ w / 256 = omega arith in
    let others : (w + 65536 * high) / 256 / 256 ≡ high = omega arith in
    (λ i. first i ∷ (second i ∷ digits_l 256 (twice n) (others i))) ∙ ap (λ l. (w % 256) ∷ ((w / 256) ∷ l)) (narrowed n ws are.1 (omega arith))

-- ---- three bytes

-- the operations on a lane
abbrev times : ℕ → ℕ → ℕ
times a b = a * b % 65536

abbrev plus : ℕ → ℕ → ℕ
plus a b = (a + b) % 65536

abbrev down : ℕ → ℕ → ℕ
down a b = a / 2 ^ b

-- the two numbers of a lane: what one product moves to the top, and above it what another one does
abbrev lane : ℕ → ℕ → ℕ → ℕ
lane p q w = plus (down (times w p) 10) (times (down (times w q) 10) 256)

-- the first two bytes of three, and the last two
first-two : (a b : ℕ) → a < 256 → b < 256 → lane 1 64 (b + 256 * a) ≡ a / 4 + 256 * (a % 4 * 16 + b / 16)
first-two a b fits-a fits-b =
    let top : (b + 256 * a) * 1 % 65536 / 1024 ≡ a / 4 = omega arith in
    let next : (b + 256 * a) * 64 % 65536 / 1024 ≡ a % 4 * 16 + b / 16 = omega arith in
    (λ i. plus (top i) (times (next i) 256)) ∙ omega arith

last-two : (b c : ℕ) → b < 256 → c < 256 → lane 16 1024 (c + 256 * b) ≡ b % 16 * 4 + c / 64 + 256 * (c % 64)
last-two b c fits-b fits-c =
    let top : (c + 256 * b) * 16 % 65536 / 1024 ≡ b % 16 * 4 + c / 64 = omega arith in
    let next : (c + 256 * b) * 1024 % 65536 / 1024 ≡ c % 64 = omega arith in
    (λ i. plus (top i) (times (next i) 256)) ∙ omega arith

-- three bytes give four numbers
three-bytes : (a b c : ℕ) (rest others : List ℕ) → a < 256 → b < 256 → c < 256 → halves rest ≡ others
    → halves (lane 1 64 (b + 256 * a) ∷ (lane 16 1024 (c + 256 * b) ∷ rest)) ≡ (a / 4) ∷ ((a % 4 * 16 + b / 16) ∷ ((b % 16 * 4 + c / 64) ∷ ((c % 64) ∷ others)))
three-bytes a b c rest others fits-a fits-b fits-c same =
    let first = first-two a b fits-a fits-b in
    let last = last-two b c fits-b fits-c in
    let one : (a / 4 + 256 * (a % 4 * 16 + b / 16)) % 256 ≡ a / 4 = omega arith in
    let two : (a / 4 + 256 * (a % 4 * 16 + b / 16)) / 256 ≡ a % 4 * 16 + b / 16 = omega arith in
    let three : (b % 16 * 4 + c / 64 + 256 * (c % 64)) % 256 ≡ b % 16 * 4 + c / 64 = omega arith in
    let four : (b % 16 * 4 + c / 64 + 256 * (c % 64)) / 256 ≡ c % 64 = omega arith in
    (λ i. halves (first i ∷ (last i ∷ rest))) ∙ (λ i. one i ∷ (two i ∷ (three i ∷ (four i ∷ same i))))

-- ---- twelve bytes

-- where the lanes of pairs come from: the second byte of a pair is the lower one
abbrev places : List ℕ
places = 1 ∷ 0 ∷ 2 ∷ 1 ∷ 4 ∷ 3 ∷ 5 ∷ 4 ∷ 7 ∷ 6 ∷ 8 ∷ 7 ∷ 10 ∷ 9 ∷ 11 ∷ 10 ∷ []

abbrev tens : List ℕ
tens = 10 ∷ 10 ∷ 10 ∷ 10 ∷ 10 ∷ 10 ∷ 10 ∷ 10 ∷ []

-- what one product moves to the top of each lane
abbrev tops : List ℕ → List ℕ
tops ws = zip2 down (zip2 times ws (1 ∷ 16 ∷ 1 ∷ 16 ∷ 1 ∷ 16 ∷ 1 ∷ 16 ∷ [])) tens

-- and another one, a byte higher
abbrev nexts : List ℕ → List ℕ
nexts ws =
    zip2 times (zip2 down (zip2 times ws (64 ∷ 1024 ∷ 64 ∷ 1024 ∷ 64 ∷ 1024 ∷ 64 ∷ 1024 ∷ [])) tens) (256 ∷ 256 ∷ 256 ∷ 256 ∷ 256 ∷ 256 ∷ 256 ∷ 256 ∷ [])

abbrev lanes : List ℕ → List ℕ
lanes ws = zip2 plus (tops ws) (nexts ws)

-- the lanes of three bytes
abbrev of-three : List ℕ → ℕ → List ℕ → List ℕ
of-three v k rest = lane 1 64 (get_or v (k + 1) 0 + 256 * get_or v k 0) ∷ (lane 16 1024 (get_or v (k + 2) 0 + 256 * get_or v (k + 1) 0) ∷ rest)

-- each lane of bytes is one
byte-at : (v : List ℕ) → Each1 (Fits w8) v → (k : ℕ) → get_or v k 0 < 256
byte-at [] fits k = omega arith
byte-at (x ∷ xs) fits zero = fits.0.fits
byte-at (x ∷ xs) fits (suc k) = byte-at xs fits.1 k

-- so are lanes at some places
picked-bytes : (v ks : List ℕ) → ((k : ℕ) → get_or v k 0 < 256) → Each1 (λ x. x < 256) (pick_l 0 v ks)
picked-bytes v [] at = tt
picked-bytes v (k ∷ ks) at = (at k, picked-bytes v ks at)

-- all lanes
pub twelve-bytes : (v : List ℕ) → (length v ≡ 16) × Each1 (Fits w8) v → digits_l 256 16 (number_l 65536 (lanes (digits_l 65536 8 (number_l 256 (pick_l 0 (v ++ v) places))))) ≡ sixes (take 12 v)
twelve-bytes v (size, fits) =
    let at : (k : ℕ) → get_or v k 0 < 256 = byte-at v fits in
    let ws : List ℕ = two-by-two (pick_l 0 v places) in
    let pairs : digits_l 65536 8 (number_l 256 (pick_l 0 (v ++ v) places)) ≡ ws =
    ap (λ l. digits_l 65536 8 (number_l 256 l)) (pick_l_left 0 v v 16 places size tt) ∙ widened 8 (pick_l 0 v places) (picked-bytes v places at) refl in
    let small : Each1 (λ w. w < 65536) (lanes ws) = Each1-zip2 plus (λ w. w < 65536) (tops ws) (nexts ws) (Each2-all (λ a b. plus a b < 65536) (λ a b. omega arith) (tops ws) (nexts ws)) in
    let last : List ℕ = of-three v 9 [] in
    let third : List ℕ = of-three v 6 last in
    ap (λ l. digits_l 256 16 (number_l 65536 (lanes l))) pairs
    ∙ narrowed 8 (lanes ws) small refl
    ∙ three-bytes (get_or v 0 0) (get_or v 1 0) (get_or v 2 0) (of-three v 3 third) _ (at 0) (at 1) (at 2)
    (three-bytes (get_or v 3 0) (get_or v 4 0) (get_or v 5 0) third _ (at 3) (at 4) (at 5)
    (three-bytes (get_or v 6 0) (get_or v 7 0) (get_or v 8 0) last _ (at 6) (at 7) (at 8)
    (three-bytes (get_or v 9 0) (get_or v 10 0) (get_or v 11 0) [] [] (at 9) (at 10) (at 11) refl)))
    ∙ ap sixes (pick_l-range_with_len 0 v 0 12 (let long : 0 + 12 ≤ length v = omega (arith, size) in long))
