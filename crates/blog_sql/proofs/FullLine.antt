-- Twelve bytes in base64, and the line that they are parts of.
use Rattle.std.proofs.Common.{◌≡◌, ℕ, ◌+◌, ◌-◌, ◌*◌, ◌/◌, ◌%◌, ◌<◌, ◌≤◌, List, [], ◌∷◌, ◌++◌, map, length, take, drop, get_or, replicate, refl, sym, ap, subst, ◌∙◌, arith, append-nil, append_assoc, w8, Fits}
use Rattle.std.proofs.lemmas.List.{length-take-le, length-drop, length-append, take-take, take_all, take_at, take-append-drop, drop-drop}
use Rattle.std.proofs.lemmas.Slice.{drop-append-drop}
use Rattle.std.proofs.Math.Seq.{take-add}
use Rattle.std.proofs.lemmas.Simd.{Each1-chunk, below_from_Fits, put_chunk_is, pick_l_left, pick_l-range_with_len}
use lib.Lanes.{Each1, pick_l, put_chunk}
use Rattle.base64.specs.Engines.{standard}
use Rattle.base64.specs.GeneralPurpose.{encode_of, engine_symbols}
use Rattle.base64.specs.Rfc4648.{encode_symbols, padding_len}
use Rattle.base64.proofs.EngineFacts.{encode_of-append}
use Rattle.blog_sql.specs.code.FullLine.{sixes}
use Rattle.blog_sql.proofs.Lines.{encoded-length}

-- the numbers have six bits
small : (m : List ℕ) → Each1 (λ x. x < 256) m → Each1 (λ x. x < 64) (sixes m)
small [] are = tt
small (a ∷ []) are = tt
small (a ∷ b ∷ []) are = tt
small (a ∷ b ∷ c ∷ rest) are =
    let fits-a : a < 256 = are.0 in
    let fits-b : b < 256 = are.1.0 in
    let fits-c : c < 256 = are.1.1.0 in
    (omega arith, (omega arith, (omega arith, (omega arith, small rest are.1.1.1))))

pub six-bits : (v m : List ℕ) → Each1 (Fits w8) v → m ≡ sixes (take 12 v) → Each1 (λ x. x < 64) m
six-bits v m fits is = subst (Each1 (λ x. x < 64)) (sym is) (small (take 12 v) (Each1-chunk (λ x. x < 256) 0 12 v (below_from_Fits w8 v fits)))

-- their characters are the symbols
symbols : (m : List ℕ) → length m % 3 ≡ 0 → map (λ x. get_or (engine_symbols standard) x 0) (sixes m) ≡ encode_symbols (engine_symbols standard) m
unfolding encode_symbols
symbols [] whole = refl
symbols (a ∷ []) whole = absurd (omega arith)
symbols (a ∷ b ∷ []) whole = absurd (omega arith)
symbols (a ∷ b ∷ c ∷ rest) whole =
    let t : List ℕ = engine_symbols standard in
    ap (λ l. get_or t (a / 4) 0 ∷ (get_or t (a % 4 * 16 + b / 16) 0 ∷ (get_or t (b % 16 * 4 + c / 64) 0 ∷ (get_or t (c % 64) 0 ∷ l)))) (symbols rest (omega arith))

-- whole groups need no padding
no-padding : (m : List ℕ) → length m % 3 ≡ 0 → encode_symbols (engine_symbols standard) m ≡ encode_of standard m
no-padding m whole =
    let none : padding_len (length m) ≡ 0 = omega (arith, whole) in
    sym (ap (λ n. encode_symbols (engine_symbols standard) m ++ replicate n 61) none ∙ append-nil (encode_symbols (engine_symbols standard) m))

pub characters-are : (v numbers : List ℕ) → length v ≡ 16 → numbers ≡ sixes (take 12 v) → map (λ x. get_or (engine_symbols standard) x 0) numbers ≡ encode_of standard (take 12 v)
characters-are v numbers size is =
    let whole : length (take 12 v) % 3 ≡ 0 = ap (λ n. n % 3) (length-take-le 12 v (omega (arith, size))) in
    ap (map (λ x. get_or (engine_symbols standard) x 0)) is ∙ symbols (take 12 v) whole ∙ no-padding (take 12 v) whole

-- ---- the parts of a line

-- a part over sixteen bytes of a line
pub part-put : (at : ℕ) (line part : List ℕ) → length part ≡ 16 → at + 16 ≤ length line → put_chunk at line part ≡ take at line ++ (part ++ drop (at + 16) line)
part-put at line part size room =
    put_chunk_is at line part (omega (arith, size))
    ∙ ap (λ n. take at line ++ (part ++ drop n (drop at line))) size ∙ ap (λ l. take at line ++ (part ++ l)) (drop-drop 16 at line)

-- after the bytes that are encoded so far, twelve more
pub next-part : (p : ℕ) (bytes line part now : List ℕ) → p < 4 → length bytes ≡ 57 → length line ≡ 77 → take (16 * p) line ≡ encode_of standard (take (12 * p) bytes)
    → part ≡ encode_of standard (take 12 (take 16 (drop (12 * p) bytes))) → now ≡ take (16 * p) line ++ (part ++ drop (16 * p + 16) line) → take (16 * (p + 1)) now ≡ encode_of standard (take (12 * (p + 1)) bytes)
next-part p bytes line part now few size room before is done =
    let front : List ℕ = take (12 * p) bytes in
    let more : List ℕ = take 12 (drop (12 * p) bytes) in
    let long : length front ≡ 12 * p = length-take-le (12 * p) bytes (omega arith) in
    let long_more : length more ≡ 12 = length-take-le 12 (drop (12 * p) bytes) (omega (arith, length-drop (12 * p) bytes)) in
    let whole : length front % 3 ≡ 0 = omega arith in
    let same : part ≡ encode_of standard more = is ∙ ap (encode_of standard) (take-take 12 16 (drop (12 * p) bytes) (omega arith)) in
    let both : take (12 * (p + 1)) bytes ≡ front ++ more = ap (λ n. take n bytes) (let e : 12 * (p + 1) ≡ 12 * p + 12 = omega arith in e) ∙ take-add (12 * p) 12 bytes in
    let written : take (16 * p) line ++ part ≡ encode_of standard (take (12 * (p + 1)) bytes) =
    (λ i. before i ++ same i) ∙ sym (encode_of-append standard front more whole) ∙ ap (encode_of standard) (sym both) in
    let long_written : length (take (16 * p) line ++ part) ≡ 16 * (p + 1) =
    ap length written ∙ encoded-length (take (12 * (p + 1)) bytes) ∙ omega (arith, length-take-le (12 * (p + 1)) bytes (omega arith)) in
    ap (take (16 * (p + 1))) (done ∙ sym (append_assoc (take (16 * p) line) part (drop (16 * p + 16) line)))
    ∙ take_at (take (16 * p) line ++ part) (drop (16 * p + 16) line) (16 * (p + 1)) long_written ∙ written

-- they are sixteen characters
pub part-long : (p : ℕ) (bytes part : List ℕ) → p < 4 → length bytes ≡ 57 → part ≡ encode_of standard (take 12 (take 16 (drop (12 * p) bytes))) → length part ≡ 16
part-long p bytes part few size is =
    let more : List ℕ = take 12 (drop (12 * p) bytes) in
    let long : length more ≡ 12 = length-take-le 12 (drop (12 * p) bytes) (omega (arith, length-drop (12 * p) bytes)) in
    ap length (is ∙ ap (encode_of standard) (take-take 12 16 (drop (12 * p) bytes) (omega arith))) ∙ encoded-length more
    ∙ ap (λ n. (4 * n + 2) / 3 + (3 - n % 3) % 3) long

-- the end of the line stays
pub end-kept : (p : ℕ) (line part now : List ℕ) → p < 4 → length line ≡ 77 → length part ≡ 16 → now ≡ take (16 * p) line ++ (part ++ drop (16 * p + 16) line) → drop 76 now ≡ drop 76 line
end-kept p line part now few room size done =
    let front : List ℕ = take (16 * p) line ++ part in
    let long : length front ≡ 16 * p + 16 = omega (arith, length-append (take (16 * p) line) part, length-take-le (16 * p) line (omega arith)) in
    ap (drop 76) (done ∙ sym (append_assoc (take (16 * p) line) part (drop (16 * p + 16) line)))
    ∙ drop-append-drop (16 * p + 16) line front 76 (omega arith) long

-- the last twelve bytes, in front of the four before them
abbrev turned : List ℕ → List ℕ
turned v = pick_l 0 (v ++ v) (4 ∷ 5 ∷ 6 ∷ 7 ∷ 8 ∷ 9 ∷ 10 ∷ 11 ∷ 12 ∷ 13 ∷ 14 ∷ 15 ∷ 0 ∷ 1 ∷ 2 ∷ 3 ∷ [])

last-twelve : (bytes : List ℕ) → length bytes ≡ 57 → take 12 (turned (take 16 (drop 41 bytes))) ≡ drop 45 bytes
last-twelve bytes size =
    let v : List ℕ = take 16 (drop 41 bytes) in
    let all : v ≡ drop 41 bytes = take_all 16 (drop 41 bytes) (omega (arith, length-drop 41 bytes)) in
    let long : length v ≡ 16 = ap length all ∙ omega (arith, length-drop 41 bytes) in
    let rest : List ℕ = drop 45 bytes in
    pick_l_left 0 v v 16 (4 ∷ 5 ∷ 6 ∷ 7 ∷ 8 ∷ 9 ∷ 10 ∷ 11 ∷ 12 ∷ 13 ∷ 14 ∷ 15 ∷ []) long tt
    ∙ pick_l-range_with_len 0 v 4 12 (let room : 4 + 12 ≤ length v = omega (arith, long) in room)
    ∙ ap (λ l. take 12 (drop 4 l)) all ∙ ap (take 12) (drop-drop 4 41 bytes) ∙ take_all 12 rest (omega (arith, length-drop 45 bytes))

-- the whole line
pub line-is : (p : ℕ) (bytes line part now : List ℕ) → 4 ≤ p → p ≤ 4 → length bytes ≡ 57 → take (16 * p) line ≡ encode_of standard (take (12 * p) bytes) → drop 76 line ≡ 10 ∷ []
    → part ≡ encode_of standard (take 12 (turned (take 16 (drop 41 bytes)))) → now ≡ take 60 line ++ (part ++ drop 76 line) → now ≡ encode_of standard bytes ++ 10 ∷ []
line-is p bytes line part now le ge size before end is done =
    let four : p ≡ 4 = omega arith in
    let front : List ℕ = take 45 bytes in
    let more : List ℕ = take 3 (drop 45 bytes) in
    let rest : List ℕ = drop 45 bytes in
    let long : length front ≡ 45 = length-take-le 45 bytes (omega arith) in
    let whole : length front % 3 ≡ 0 = ap (λ n. n % 3) long in
    let long_front : length (encode_of standard front) ≡ 60 = encoded-length front ∙ ap (λ n. (4 * n + 2) / 3 + (3 - n % 3) % 3) long in
    let so_far : take 64 line ≡ encode_of standard (front ++ more) =
    ap (λ k. take (16 * k) line) (sym four) ∙ before ∙ ap (λ k. encode_of standard (take (12 * k) bytes)) four ∙ ap (encode_of standard) (take-add 45 3 bytes) in
    let first : take 60 line ≡ encode_of standard front =
    sym (take-take 60 64 line (omega arith)) ∙ ap (take 60) (so_far ∙ encode_of-append standard front more whole)
    ∙ take_at (encode_of standard front) (encode_of standard more) 60 long_front in
    let last : part ≡ encode_of standard rest = is ∙ ap (encode_of standard) (last-twelve bytes size) in
    done ∙ (λ i. first i ++ (last i ++ end i)) ∙ sym (append_assoc (encode_of standard front) (encode_of standard rest) (10 ∷ []))
    ∙ ap (λ l. l ++ 10 ∷ []) (sym (encode_of-append standard front rest whole) ∙ ap (encode_of standard) (take-append-drop 45 bytes))
