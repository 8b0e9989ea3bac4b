-- From bytes to words.
use Rattle.std.proofs.Common.{◌≡◌, ℕ, ◌+◌, ◌-◌, ◌*◌, ◌/◌, ◌%◌, ◌^◌, ◌<◌, ◌≤◌, List, [], ◌∷◌, ◌++◌, length, take, drop, get_or, bit_xor, refl, sym, ap, ◌∙◌, arith, length-drop}
use Rattle.std.proofs.lemmas.List.{get_or-drop, drop-drop, drop_all, take_all, take-append-drop}
use Rattle.std.proofs.lemmas.Nat.{xor_shr, xor_comm, shr-shr}
use lib.Bits.{xor_assoc, xor_zero_r}
use Rattle.byteorder.specs.Endian.{little_number}
use Rattle.blog_sum.specs.Crc.{step_bits, register_after, crc32_of}
use Rattle.blog_sum.specs.declared.tables.TheConstants.{TABLES}
use Rattle.blog_sum.proofs.Steps.{xor-above, xor-twice, step_bits-xor, step_bits-add, step_bits-zeros, step_bits-split}
use Rattle.blog_sum.proofs.Entries.{IsTable, table-at}

-- ---- sums of four

-- from the last to the first
xor-backwards : (a b d e : ℕ) → bit_xor (bit_xor (bit_xor a b) d) e ≡ bit_xor (bit_xor (bit_xor e d) b) a
xor-backwards a b d e =
    xor_comm (bit_xor (bit_xor a b) d) e
    ∙ ap (bit_xor e) (xor_comm (bit_xor a b) d ∙ ap (bit_xor d) (xor_comm a b))
    ∙ sym (xor_assoc e d (bit_xor b a)) ∙ sym (xor_assoc (bit_xor e d) b a)

-- grouped to the left
xor-leftwards : (a b d e : ℕ) → bit_xor a (bit_xor b (bit_xor d e)) ≡ bit_xor (bit_xor (bit_xor a b) d) e
xor-leftwards a b d e = sym (xor_assoc a b (bit_xor d e)) ∙ sym (xor_assoc (bit_xor a b) d e)

-- ---- bytes and words

-- a byte by its table
pub byte-step : (table : List ℕ) → IsTable 8 table → (c b : ℕ) → b < 256
    → bit_xor (get_or table (bit_xor c b % 256) 0) (c / 256) ≡ step_bits 8 (bit_xor c b)
unfolding step_bits
byte-step table is c b fits =
    let x : ℕ = bit_xor c b in
    let gone : b / 256 ≡ 0 = omega arith in
    let high : x / 256 ≡ c / 256 = xor_shr c b 8 ∙ ap (bit_xor (c / 256)) gone ∙ xor_zero_r (c / 256) in
    let low : get_or table (x % 256) 0 ≡ step_bits 8 (x % 256) = is (x % 256) (omega arith) in
    rw low (ap (bit_xor (step_bits 8 (x % 256))) (sym high) ∙ sym (step_bits-split 8 0 x))

-- the register, with a byte and then what is above it
above-byte : (n c b h : ℕ) → b < 256 → step_bits n (bit_xor (step_bits 8 (bit_xor c b)) h) ≡ step_bits (8 + n) (bit_xor c (b + 256 * h))
above-byte n c b h fits =
    let sum : b + 256 * h ≡ bit_xor (h * 2 ^ 8) b = (let turned : b + 256 * h ≡ h * 2 ^ 8 + b = omega arith in turned) ∙ sym (xor-above h 8 b fits) in
    let parts : bit_xor c (b + 256 * h) ≡ bit_xor (bit_xor c b) (h * 2 ^ 8) = ap (bit_xor c) (sum ∙ xor_comm (h * 2 ^ 8) b) ∙ sym (xor_assoc c b (h * 2 ^ 8)) in
    let out : step_bits 8 (bit_xor (bit_xor c b) (h * 2 ^ 8)) ≡ bit_xor (step_bits 8 (bit_xor c b)) h =
    step_bits-xor 8 (bit_xor c b) (h * 2 ^ 8) ∙ ap (bit_xor (step_bits 8 (bit_xor c b))) (step_bits-zeros 8 h) in
    sym (ap (step_bits (8 + n)) parts ∙ step_bits-add 8 n (bit_xor (bit_xor c b) (h * 2 ^ 8)) ∙ ap (step_bits n) out)

-- four bytes are a word
four-bytes : (c a b d e : ℕ) → a < 256 → b < 256 → d < 256
    → step_bits 8 (bit_xor (step_bits 8 (bit_xor (step_bits 8 (bit_xor (step_bits 8 (bit_xor c a)) b)) d)) e)
    ≡ step_bits 32 (bit_xor c (a + 256 * (b + 256 * (d + 256 * e))))
four-bytes c a b d e fa fb fd =
    above-byte 8 (step_bits 8 (bit_xor (step_bits 8 (bit_xor c a)) b)) d e fd
    ∙ above-byte 16 (step_bits 8 (bit_xor c a)) b (d + 256 * e) fb
    ∙ above-byte 24 c a (b + 256 * (d + 256 * e)) fa

-- the bytes of a list begin with a word
pub first-word : (c : ℕ) (xs : List ℕ) → ((i : ℕ) → get_or xs i 0 < 256) → 4 ≤ length xs
    → register_after c xs ≡ register_after (step_bits 32 (bit_xor c (little_number 4 xs))) (drop 4 xs)
unfolding register_after
first-word c [] are h = absurd (omega arith)
first-word c (a ∷ []) are h = absurd (omega arith)
first-word c (a ∷ b ∷ []) are h = absurd (omega arith)
first-word c (a ∷ b ∷ d ∷ []) are h = absurd (omega arith)
first-word c (a ∷ b ∷ d ∷ e ∷ xs) are h =
    let last : e + 256 * 0 ≡ e = omega arith in
    rw last (ap (λ r. register_after r xs) (four-bytes c a b d e (are 0) (are 1) (are 2)))

-- a word further on
word-at : (n c : ℕ) (xs : List ℕ) → ((i : ℕ) → get_or xs i 0 < 256) → n + 4 ≤ length xs
    → register_after c (drop n xs) ≡ register_after (step_bits 32 (bit_xor c (little_number 4 (drop n xs)))) (drop (n + 4) xs)
word-at n c xs are h =
    let each : (i : ℕ) → get_or (drop n xs) i 0 < 256 = λ i. rw (get_or-drop n xs i 0) (are (n + i)) in
    first-word c (drop n xs) each (omega (arith, length-drop n xs))
    ∙ ap (register_after (step_bits 32 (bit_xor c (little_number 4 (drop n xs))))) (drop-drop 4 n xs)

-- ---- sixteen bytes

-- a sum and then a word, after four bytes more
sum-after : (n x w : ℕ) → step_bits 32 (bit_xor (step_bits n x) w) ≡ bit_xor (step_bits (n + 32) x) (step_bits 32 w)
sum-after n x w = step_bits-xor 32 (step_bits n x) w ∙ ap (λ r. bit_xor r (step_bits 32 w)) (sym (step_bits-add n 32 x))

-- four words, each after those behind it
four-words : (x b d e : ℕ)
    → step_bits 32 (bit_xor (step_bits 32 (bit_xor (step_bits 32 (bit_xor (step_bits 32 x) b)) d)) e)
    ≡ bit_xor (bit_xor (bit_xor (step_bits 32 e) (step_bits 64 d)) (step_bits 96 b)) (step_bits 128 x)
four-words x b d e =
    let two : step_bits 32 (bit_xor (step_bits 32 x) b) ≡ bit_xor (step_bits 64 x) (step_bits 32 b) = sum-after 32 x b in
    let three : step_bits 32 (bit_xor (bit_xor (step_bits 64 x) (step_bits 32 b)) d) ≡ bit_xor (bit_xor (step_bits 96 x) (step_bits 64 b)) (step_bits 32 d) =
    step_bits-xor 32 (bit_xor (step_bits 64 x) (step_bits 32 b)) d
    ∙ ap (λ r. bit_xor r (step_bits 32 d)) (sum-after 64 x (step_bits 32 b) ∙ ap (bit_xor (step_bits 96 x)) (sym (step_bits-add 32 32 b))) in
    let four : step_bits 32 (bit_xor (bit_xor (bit_xor (step_bits 96 x) (step_bits 64 b)) (step_bits 32 d)) e)
    ≡ bit_xor (bit_xor (bit_xor (step_bits 128 x) (step_bits 96 b)) (step_bits 64 d)) (step_bits 32 e) =
    step_bits-xor 32 (bit_xor (bit_xor (step_bits 96 x) (step_bits 64 b)) (step_bits 32 d)) e
    ∙ ap (λ r. bit_xor r (step_bits 32 e))
    (step_bits-xor 32 (bit_xor (step_bits 96 x) (step_bits 64 b)) (step_bits 32 d)
    ∙ (λ i. bit_xor ((sum-after 96 x (step_bits 64 b) ∙ ap (bit_xor (step_bits 128 x)) (sym (step_bits-add 64 32 b))) i) (sym (step_bits-add 32 32 d) i))) in
    ap (λ r. step_bits 32 (bit_xor (step_bits 32 (bit_xor r d)) e)) two ∙ ap (λ r. step_bits 32 (bit_xor r e)) three ∙ four
    ∙ xor-backwards (step_bits 128 x) (step_bits 96 b) (step_bits 64 d) (step_bits 32 e)

-- the register after sixteen bytes, by their words
pub sixteen-bytes : (c : ℕ) (xs : List ℕ) → ((i : ℕ) → get_or xs i 0 < 256) → length xs ≡ 16
    → register_after c xs
    ≡ bit_xor (bit_xor (bit_xor (step_bits 32 (little_number 4 (drop 12 xs))) (step_bits 64 (little_number 4 (drop 8 xs)))) (step_bits 96 (little_number 4 (drop 4 xs))))
    (step_bits 128 (bit_xor c (little_number 4 xs)))
unfolding register_after
sixteen-bytes c xs are size =
    let one : ℕ = step_bits 32 (bit_xor c (little_number 4 xs)) in
    let two : ℕ = step_bits 32 (bit_xor one (little_number 4 (drop 4 xs))) in
    let three : ℕ = step_bits 32 (bit_xor two (little_number 4 (drop 8 xs))) in
    let four : ℕ = step_bits 32 (bit_xor three (little_number 4 (drop 12 xs))) in
    let none : drop 16 xs ≡ [] = drop_all 16 xs (omega arith) in
    first-word c xs are (omega arith) ∙ word-at 4 one xs are (omega arith) ∙ word-at 8 two xs are (omega arith) ∙ word-at 12 three xs are (omega arith)
    ∙ ap (register_after four) none
    ∙ four-words (bit_xor c (little_number 4 xs)) (little_number 4 (drop 4 xs)) (little_number 4 (drop 8 xs)) (little_number 4 (drop 12 xs))

-- the bytes from a place to the end
pub to-the-end : (n : ℕ) (xs : List ℕ) → take (length xs - n) (drop n xs) ≡ drop n xs
to-the-end n xs = take_all (length xs - n) (drop n xs) (omega (arith, length-drop n xs))

-- the register after a byte and n bytes of zeros
abbrev byte-left : ℕ → ℕ → ℕ
byte-left n b = get_or (get_or TABLES n []) b 0

-- the lowest byte of a word apart
byte-apart : (n w : ℕ) → n < 16 → step_bits (8 * (n + 1)) w ≡ bit_xor (byte-left n (w % 256)) (step_bits (8 * n) (w / 2 ^ 8))
byte-apart n w h =
    let more : 8 * (n + 1) ≡ 8 + 8 * n = omega arith in
    let here : byte-left n (w % 256) ≡ step_bits (8 + 8 * n) (w % 256) = table-at n h (w % 256) (omega arith) ∙ ap (λ m. step_bits m (w % 256)) more in
    ap (λ m. step_bits m w) more ∙ step_bits-split 8 (8 * n) w ∙ ap (λ r. bit_xor r (step_bits (8 * n) (w / 2 ^ 8))) (sym here)

-- the register after a word and p words of zeros, by the tables
pub word-left : (p w : ℕ) → p < 4 → w < 2 ^ 32
    → bit_xor (bit_xor (bit_xor (byte-left (4 * p + 3) (w % 256)) (byte-left (4 * p + 2) (w / 2 ^ 8 % 256))) (byte-left (4 * p + 1) (w / 2 ^ 16 % 256)))
    (byte-left (4 * p) (w / 2 ^ 24))
    ≡ step_bits (32 * (p + 1)) w
word-left p w h fits =
    let a : ℕ = byte-left (4 * p + 3) (w % 256) in
    let b : ℕ = byte-left (4 * p + 2) (w / 2 ^ 8 % 256) in
    let d : ℕ = byte-left (4 * p + 1) (w / 2 ^ 16 % 256) in
    let e : ℕ = byte-left (4 * p) (w / 2 ^ 24) in
    let n4 : 32 * (p + 1) ≡ 8 * (4 * p + 3 + 1) = omega arith in
    let n3 : 8 * (4 * p + 3) ≡ 8 * (4 * p + 2 + 1) = omega arith in
    let n2 : 8 * (4 * p + 2) ≡ 8 * (4 * p + 1 + 1) = omega arith in
    let second : w / 2 ^ 8 / 2 ^ 8 ≡ w / 2 ^ 16 = shr-shr w 8 8 in
    let third : w / 2 ^ 16 / 2 ^ 8 ≡ w / 2 ^ 24 = shr-shr w 16 8 in
    let last : step_bits (8 * (4 * p + 1)) (w / 2 ^ 24) ≡ e = sym (table-at (4 * p) (omega arith) (w / 2 ^ 24) (omega arith)) in
    let two : step_bits (8 * (4 * p + 2)) (w / 2 ^ 16) ≡ bit_xor d e =
    ap (λ m. step_bits m (w / 2 ^ 16)) n2 ∙ byte-apart (4 * p + 1) (w / 2 ^ 16) (omega arith)
    ∙ ap (λ v. bit_xor d (step_bits (8 * (4 * p + 1)) v)) third ∙ ap (bit_xor d) last in
    let three : step_bits (8 * (4 * p + 3)) (w / 2 ^ 8) ≡ bit_xor b (bit_xor d e) =
    ap (λ m. step_bits m (w / 2 ^ 8)) n3 ∙ byte-apart (4 * p + 2) (w / 2 ^ 8) (omega arith)
    ∙ ap (λ v. bit_xor b (step_bits (8 * (4 * p + 2)) v)) second ∙ ap (bit_xor b) two in
    sym (ap (λ m. step_bits m w) n4 ∙ byte-apart (4 * p + 3) w (omega arith) ∙ ap (bit_xor a) three ∙ xor-leftwards a b d e)

-- ---- the sum

-- more bytes behind
pub register_after-append : (c : ℕ) (xs ys : List ℕ) → register_after c (xs ++ ys) ≡ register_after (register_after c xs) ys
unfolding register_after
register_after-append c [] ys = refl
register_after-append c (x ∷ xs) ys = register_after-append (step_bits 8 (bit_xor c x)) xs ys

-- the first bytes and then the others
pub in-two : (n r : ℕ) (xs : List ℕ) → register_after (register_after r (take n xs)) (drop n xs) ≡ register_after r xs
in-two n r xs = sym (register_after-append r (take n xs) (drop n xs)) ∙ ap (register_after r) (take-append-drop n xs)

-- the complement of a sum is the register
pub crc32-more : (c : ℕ) (before bytes : List ℕ) → bit_xor c 0xFFFFFFFF ≡ crc32_of before → bit_xor (register_after c bytes) 0xFFFFFFFF ≡ crc32_of (before ++ bytes)
unfolding crc32_of
crc32-more c before bytes same =
    let all : ℕ = 0xFFFFFFFF in
    let register : c ≡ register_after all before = sym (xor-twice c all) ∙ ap (λ r. bit_xor r all) same ∙ xor-twice (register_after all before) all in
    ap (λ r. bit_xor r all) (ap (λ r. register_after r bytes) register ∙ sym (register_after-append all before bytes))
