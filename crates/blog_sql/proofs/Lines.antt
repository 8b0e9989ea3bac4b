-- Base64 in lines: lines of 57 bytes are lines by themselves.
use Rattle.std.proofs.Common.{◌≡◌, ℕ, zero, suc, ◌+◌, ◌-◌, ◌*◌, ◌%◌, ◌/◌, ◌<◌, ◌≤◌, List, [], ◌∷◌, ◌++◌, length, take, drop, replicate, Option, refl, sym, ap, ap₂, subst, ◌∙◌, arith, append_assoc}
use Rattle.std.proofs.lemmas.List.{take_all, take-take, take-append-drop, nil_from_length, length-take-le, length-drop, length-append, length-replicate}
use Rattle.std.proofs.lemmas.Bool.{ne_eqb}
use Rattle.std.proofs.Math.Seq.{take-add, take-append-add}
use Rattle.base64.specs.Engines.{standard}
use Rattle.base64.specs.GeneralPurpose.{encode_of, engine_symbols}
use Rattle.base64.specs.Rfc4648.{encode_symbols}
use Rattle.base64.proofs.EngineFacts.{encode_of-append, encode_of-nil}
use Rattle.base64.proofs.RoundTrip.{length-encode_symbols}
use Rattle.blog_device.specs.Devices.{AppendsBeginning}
use Rattle.blog_sql.specs.Sql.{base64_lines, in_lines}
use Rattle.blog_sql.specs.code.Adding.{Adds, full_part}
use Rattle.blog_sql.proofs.Adding.{adds-more, adds-broken, begins-longer}

-- ---- lines of a text

-- a full line
full-line : (room : ℕ) (a b : List ℕ) → length a ≡ room → in_lines room (a ++ b) ≡ a ++ in_lines zero b
unfolding in_lines
full-line zero [] b h = refl
full-line zero (c ∷ a) b h = absurd (omega arith)
full-line (suc room) [] b h = absurd (omega arith)
full-line (suc room) (c ∷ a) b h = ap (λ (text : List ℕ). c ∷ text) (full-line room a b (omega arith))

-- it ends before the next one
next-line : (b : List ℕ) → in_lines zero b ≡ 10 ∷ in_lines 76 b
unfolding in_lines
next-line [] = refl
next-line (c ∷ b) = refl

-- a line with room left
short-line : (room : ℕ) (a : List ℕ) → length a ≤ room → room < 76 → in_lines room a ≡ a ++ 10 ∷ []
unfolding in_lines
short-line room [] h small = rw (ne_eqb room 76 (λ same. omega arith)) refl
short-line zero (c ∷ a) h small = absurd (omega arith)
short-line (suc room) (c ∷ a) h small = ap (λ (text : List ℕ). c ∷ text) (short-line room a (omega arith) (omega arith))

-- a line that isn't empty, full or not
whole-line : (a : List ℕ) → 0 < length a → length a ≤ 76 → in_lines 76 a ≡ a ++ 10 ∷ []
unfolding in_lines
whole-line [] some h = absurd (omega arith)
whole-line (c ∷ a) some h = ap (λ (text : List ℕ). c ∷ text) (short-line 75 a (omega arith) (omega arith))

-- ---- lines of bytes

-- the first of what is left of equal bytes
one-left : (n k b : ℕ) → n < k → take 1 (drop n (replicate k b)) ≡ b ∷ []
one-left zero zero b h = absurd (omega arith)
one-left zero (suc k) b h = refl
one-left (suc n) zero b h = absurd (omega arith)
one-left (suc n) (suc k) b h = one-left n k b (omega arith)

-- how long the encoding of a line is
pub encoded-length : (l : List ℕ) → length (encode_of standard l) ≡ (4 * length l + 2) / 3 + (3 - length l % 3) % 3
encoded-length l =
    let symbols : List ℕ = encode_symbols (engine_symbols standard) l in
    let pads : List ℕ = replicate ((3 - length l % 3) % 3) 61 in
    length-append symbols pads ∙ ap₂ (λ (n k : ℕ). n + k) (length-encode_symbols (engine_symbols standard) l) (length-replicate ((3 - length l % 3) % 3) 61)

full-length : (l : List ℕ) → length l ≡ 57 → length (encode_of standard l) ≡ 76
full-length l h = encoded-length l ∙ ap (λ (n : ℕ). (4 * n + 2) / 3 + (3 - n % 3) % 3) h

pub first-line : (l rest : List ℕ) → length l ≡ 57 → base64_lines (l ++ rest) ≡ (encode_of standard l ++ 10 ∷ []) ++ base64_lines rest
unfolding base64_lines
first-line l rest h =
    ap (in_lines 76) (encode_of-append standard l rest (ap (λ (n : ℕ). n % 3) h))
    ∙ full-line 76 (encode_of standard l) (encode_of standard rest) (full-length l h)
    ∙ ap (λ (text : List ℕ). encode_of standard l ++ text) (next-line (encode_of standard rest))
    ∙ sym (append_assoc (encode_of standard l) (10 ∷ []) (base64_lines rest))

-- no bytes
pub no-lines : base64_lines [] ≡ []
unfolding base64_lines in_lines
no-lines = ap (in_lines 76) (encode_of-nil standard)

-- one line, which may be short
pub one-line : (l : List ℕ) → 0 < length l → length l ≤ 57 → base64_lines l ≡ encode_of standard l ++ 10 ∷ []
unfolding base64_lines
one-line l some few = let size = encoded-length l in whole-line (encode_of standard l) (omega arith) (omega arith)

-- the line that is put: its encoding over ends of lines
pub line-put : (l out : List ℕ) (n len : ℕ) → 0 < length l → length l ≤ 57 → out ≡ encode_of standard l ++ drop n (replicate 77 10) → n ≡ (4 * length l + 2) / 3 + (3 - length l % 3) % 3 → len ≡ n
    → take (len + 1) out ≡ base64_lines l
line-put l out n len some few is size same =
    let long = encoded-length l in
    let ends = one-left n 77 10 (omega arith) in
    ap₂ (λ (k : ℕ) (bytes : List ℕ). take (k + 1) bytes) (same ∙ size ∙ sym long) is
    ∙ take-append-add (encode_of standard l) (drop n (replicate 77 10)) 1
    ∙ ap (λ (bytes : List ℕ). encode_of standard l ++ bytes) ends ∙ sym (one-line l some few)

-- full lines, and those after them
pub lines-more : (k : ℕ) (a b : List ℕ) → length a ≡ 57 * k → base64_lines (a ++ b) ≡ base64_lines a ++ base64_lines b
lines-more zero a b h =
    let none : a ≡ [] = nil_from_length a (omega arith) in
    rw none (ap (λ (text : List ℕ). text ++ base64_lines b) (sym no-lines))
lines-more (suc k) a b h =
    let first : List ℕ = take 57 a in
    let others : List ℕ = drop 57 a in
    let parts : first ++ others ≡ a = take-append-drop 57 a in
    let size : length first ≡ 57 = length-take-le 57 a (omega arith) in
    let inner = lines-more k others b (omega (arith, length-drop 57 a)) in
    let line : List ℕ = encode_of standard first ++ 10 ∷ [] in
    ap (λ (bytes : List ℕ). base64_lines (bytes ++ b)) (sym parts) ∙ ap base64_lines (append_assoc first others b)
    ∙ first-line first (others ++ b) size ∙ ap (λ (text : List ℕ). line ++ text) inner
    ∙ sym (append_assoc line (base64_lines others) (base64_lines b))
    ∙ ap (λ (text : List ℕ). text ++ base64_lines b) (sym (first-line first others size) ∙ ap base64_lines parts)

-- the same, by the rest of a division
pub lines-after : (a b : List ℕ) → length a % 57 ≡ 0 → base64_lines (a ++ b) ≡ base64_lines a ++ base64_lines b
lines-after a b h = lines-more (length a / 57) a b (omega arith)

-- another full line of some bytes
pub take-line : (n : ℕ) (a : List ℕ) → n % 57 ≡ 0 → n ≤ length a → base64_lines (take (n + 57) a) ≡ base64_lines (take n a) ++ base64_lines (take 57 (drop n a))
take-line n a full within =
    let size : length (take n a) ≡ n = length-take-le n a within in
    ap base64_lines (take-add n 57 a) ∙ lines-after (take n a) (take 57 (drop n a)) (ap (λ (k : ℕ). k % 57) size ∙ full)

-- full lines and what is left of some bytes
pub lines-left : (n : ℕ) (a : List ℕ) → n % 57 ≡ 0 → n ≤ length a → base64_lines a ≡ base64_lines (take n a) ++ base64_lines (drop n a)
lines-left n a full within =
    let size : length (take n a) ≡ n = length-take-le n a within in
    ap base64_lines (sym (take-append-drop n a)) ∙ lines-after (take n a) (drop n a) (ap (λ (k : ℕ). k % 57) size ∙ full)

-- the lines so far, and one more
pub adds-line : (had has now : Option (List ℕ)) (x y z a l : List ℕ) (n : ℕ) → Adds had has x y (base64_lines (take n a)) → Adds has now y z (base64_lines l) → l ≡ take 57 (drop n a) → n % 57 ≡ 0 → n ≤ length a
    → Adds had now x z (base64_lines (take (n + 57) a))
adds-line had has now x y z a l n before line is full within =
    subst (Adds had now x z) (ap (λ (bytes : List ℕ). base64_lines (take n a) ++ base64_lines bytes) is ∙ sym (take-line n a full within))
    (adds-more had has now x y z (base64_lines (take n a)) (base64_lines l) before line)

-- the lines so far, and a beginning of one more
pub line-broken : (had has now : Option (List ℕ)) (x y a l : List ℕ) (n : ℕ) → Adds had has x y (base64_lines (take n a)) → AppendsBeginning has now (y ++ base64_lines l) → l ≡ take 57 (drop n a) → n % 57 ≡ 0 → n + 57 ≤ length a
    → AppendsBeginning had now (x ++ base64_lines (full_part a))
line-broken had has now x y a l n before broken is full within =
    let m : ℕ = length a - length a % 57 in
    let within_part : n + 57 ≤ m = omega arith in
    let part : List ℕ = take m a in
    let size : length part ≡ m = length-take-le m a (omega arith) in
    let full_next : (n + 57) % 57 ≡ 0 = omega arith in
    let front : take (n + 57) part ≡ take (n + 57) a = take-take (n + 57) m a within_part in
    let split : base64_lines part ≡ base64_lines (take (n + 57) a) ++ base64_lines (drop (n + 57) part) =
    lines-left (n + 57) part full_next (omega arith) ∙ ap (λ (bytes : List ℕ). base64_lines bytes ++ base64_lines (drop (n + 57) part)) front in
    let so_far = ap (λ (bytes : List ℕ). base64_lines (take n a) ++ base64_lines bytes) is ∙ sym (take-line n a full (omega arith)) in
    let lines = subst (λ (text : List ℕ). AppendsBeginning had now (x ++ text)) so_far (adds-broken had has now x y (base64_lines (take n a)) (base64_lines l) before broken) in
    subst (λ (text : List ℕ). AppendsBeginning had now (x ++ text)) (sym split)
    (subst (AppendsBeginning had now) (append_assoc x (base64_lines (take (n + 57) a)) (base64_lines (drop (n + 57) part)))
    (begins-longer had now (x ++ base64_lines (take (n + 57) a)) (base64_lines (drop (n + 57) part)) lines))

-- a beginning of the full lines is one of all lines
pub full-broken : (had has : Option (List ℕ)) (x a : List ℕ) → AppendsBeginning had has (x ++ base64_lines (full_part a)) → AppendsBeginning had has (x ++ base64_lines a)
full-broken had has x a broken =
    let m : ℕ = length a - length a % 57 in
    subst (AppendsBeginning had has) (append_assoc x (base64_lines (take m a)) (base64_lines (drop m a)) ∙ ap (λ (text : List ℕ). x ++ text) (sym (lines-left m a (omega arith) (omega arith))))
    (begins-longer had has (x ++ base64_lines (take m a)) (base64_lines (drop m a)) broken)

-- full lines, and then what is left
pub adds-last : (had has now : Option (List ℕ)) (x y z a l : List ℕ) (n : ℕ) → Adds had has x y (base64_lines (take n a)) → l ≡ drop n a → n % 57 ≡ 0 → n ≤ length a → Adds has now y z (base64_lines l) → Adds had now x z (base64_lines a)
adds-last had has now x y z a l n before is full within last =
    subst (Adds had now x z) (ap (λ (bytes : List ℕ). base64_lines (take n a) ++ base64_lines bytes) is ∙ sym (lines-left n a full within))
    (adds-more had has now x y z (base64_lines (take n a)) (base64_lines l) before last)

pub last-broken : (had has now : Option (List ℕ)) (x y a l : List ℕ) (n : ℕ) → Adds had has x y (base64_lines (take n a)) → l ≡ drop n a → n % 57 ≡ 0 → n ≤ length a → AppendsBeginning has now (y ++ base64_lines l)
    → AppendsBeginning had now (x ++ base64_lines a)
last-broken had has now x y a l n before is full within broken =
    subst (λ (text : List ℕ). AppendsBeginning had now (x ++ text)) (ap (λ (bytes : List ℕ). base64_lines (take n a) ++ base64_lines bytes) is ∙ sym (lines-left n a full within))
    (adds-broken had has now x y (base64_lines (take n a)) (base64_lines l) before broken)

-- what is left of bytes, as a slice
pub rest-is : (n : ℕ) (a : List ℕ) → take (length a - n) (drop n a) ≡ drop n a
rest-is n a = take_all (length a - n) (drop n a) (omega (arith, length-drop n a))
