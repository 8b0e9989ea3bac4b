-- The bytes of events: their headers, the header flag for a log in use, and the places of their sums.
use Rattle.std.proofs.Common.{◌≡◌, ℕ, ◌+◌, ◌-◌, ◌/◌, ◌%◌, ◌≤◌, Bool, List, [], ◌∷◌, ◌++◌, length, take, drop, Some, refl, sym, ap, ◌∙◌, arith, append_assoc, length-append}
use Rattle.std.specs.Prelude.{◌==◌}
use Rattle.std.specs.List.{between}
use Rattle.std.proofs.lemmas.List.{length-take-le, take-append-drop, take-append-le, take_at}
use Rattle.std.proofs.Math.Seq.{take-append-add, drop-append-add}
use Rattle.byteorder.specs.Endian.{little_bytes, little_number}
use Rattle.blog_event.specs.Event.{Event, event_size, event_text, event_at}
use Rattle.blog_event.specs.File.{AreBytes, magic}
use Rattle.blog_event.proofs.Framing.{bytes-drop, event-found, text-length}
use Rattle.blog_sum.specs.Crc.{crc32_of}
use Rattle.blog_sum.specs.Sums.{ends_in_its_sum, not_in_use}
use Rattle.blog_sum.specs.Plain.{format_with, plain_format}
use Rattle.blog_sum.specs.code.Left.{flag_cleared}

-- ---- headers

-- the 19 bytes of a header with this size
head : ℕ → Event → List ℕ
head size e = little_bytes 4 e.timestamp ++ (e.kind ∷ (little_bytes 4 e.server_id ++ (little_bytes 4 size ++ (little_bytes 4 e.log_pos ++ little_bytes 2 e.flags))))

-- a text is a header and a body
text-head : (e : Event) → event_text e ≡ head (event_size e) e ++ e.body
unfolding event_text head
text-head e = refl

-- as far as a place in the body, and from there on
text-front : (e : Event) (n : ℕ) → take (19 + n) (event_text e) ≡ head (event_size e) e ++ take n e.body
unfolding head
text-front e n = ap (take (19 + n)) (text-head e) ∙ take-append-add (head (event_size e) e) e.body n

text-behind : (e : Event) (n : ℕ) → drop (19 + n) (event_text e) ≡ drop n e.body
unfolding head
text-behind e n = ap (drop (19 + n)) (text-head e) ∙ drop-append-add (head (event_size e) e) e.body n

-- the flag is the lowest bit of byte 17
head-cleared : (size : ℕ) (e : Event) (rest : List ℕ) → head size (not_in_use e) ++ rest ≡ flag_cleared (head size e ++ rest)
unfolding head
head-cleared size e rest =
    let low : (e.flags - e.flags % 2) % 256 ≡ e.flags % 256 - e.flags % 256 % 2 = omega arith in
    let high : (e.flags - e.flags % 2) / 256 % 256 ≡ e.flags / 256 % 256 = omega arith in
    rw (low, high) refl

-- ---- an event in the bytes of a log

-- the bytes between an event's start and its end
pub stands-text : (bytes : List ℕ) (at end : ℕ) (e : Event) → AreBytes bytes → event_at (drop at bytes) ≡ Some e → end ≡ at + event_size e
    → between at end bytes ≡ event_text e
stands-text bytes at end e are found ends =
    let stands = event-found (drop at bytes) e (bytes-drop at bytes are) found in
    let own : event_size e ≡ length (event_text e) = sym (text-length e) in
    let size : end - at ≡ length (event_text e) = omega arith in
    ap (take (end - at)) stands.1 ∙ take_at (event_text e) (drop (event_size e) (drop at bytes)) (end - at) (sym size)

-- ---- sums

-- the sum of an event with the flag clear, by its bytes as they stand
pub cleared-sum : (e : Event) (text : List ℕ) (n : ℕ) → text ≡ event_text e → n + 4 ≡ event_size e → 4 ≤ length e.body
    → ends_in_its_sum (event_text (not_in_use e)) ≡ (little_number 4 (drop n text) == crc32_of (flag_cleared (take n text)))
cleared-sum e text n is size room =
    let m : ℕ = length e.body - 4 in
    let place : n ≡ 19 + m = omega arith in
    let own = text-length (not_in_use e) in
    let last : length (event_text (not_in_use e)) - 4 ≡ 19 + m = omega arith in
    let front : flag_cleared (take n text) ≡ take (19 + m) (event_text (not_in_use e)) =
    ap flag_cleared (ap (take n) is ∙ ap (λ (n : ℕ). take n (event_text e)) place ∙ text-front e m)
    ∙ sym (head-cleared (event_size e) e (take m e.body)) ∙ sym (text-front (not_in_use e) m) in
    let behind : drop n text ≡ drop (19 + m) (event_text (not_in_use e)) =
    ap (drop n) is ∙ ap (λ (n : ℕ). drop n (event_text e)) place ∙ text-behind e m ∙ sym (text-behind (not_in_use e) m) in
    rw (last, front, behind) refl

-- the same of the parts that were read
pub format-sum : (bytes : List ℕ) (end n : ℕ) (e : Event) (front back : List ℕ) (number sum : ℕ) (has : Bool) → AreBytes bytes → event_at (drop 4 bytes) ≡ Some e
    → end ≡ 4 + event_size e → n + 4 ≡ event_size e → 4 ≤ length e.body → front ≡ take n (between 4 end bytes) → back ≡ drop n (between 4 end bytes)
    → number ≡ little_number 4 back → sum ≡ crc32_of (flag_cleared front) → (number == sum) ≡ has → ends_in_its_sum (event_text (not_in_use e)) ≡ has
format-sum bytes end n e front back number sum has are found ends size room front_is back_is number_is sum_is tested =
    let text : List ℕ = between 4 end bytes in
    let read : little_number 4 (drop n text) ≡ number = ap (little_number 4) (sym back_is) ∙ sym number_is in
    let computed : crc32_of (flag_cleared (take n text)) ≡ sum = ap (λ (front : List ℕ). crc32_of (flag_cleared front)) (sym front_is) ∙ sym sum_is in
    cleared-sum e text n (stands-text bytes 4 end e are found ends) size room
    ∙ ap (λ (number : ℕ). number == crc32_of (flag_cleared (take n text))) read ∙ ap (λ (sum : ℕ). number == sum) computed ∙ tested

-- the sum at the end of an event
pub own-sum : (e : Event) (text : List ℕ) → text ≡ event_text e → ends_in_its_sum (event_text e) ≡ ends_in_its_sum text
own-sum e text is = ap ends_in_its_sum (sym is)

-- ---- the plain format description

-- the algorithm and the sum are five bytes
pub format-size : (sum : ℕ) (e : Event) → 5 ≤ length e.body → event_size (format_with sum e) ≡ event_size e
format-size sum e room =
    let front = length-take-le (length e.body - 5) e.body (omega arith) in
    let all = length-append (take (length e.body - 5) e.body) (0 ∷ little_bytes 4 sum) in
    omega arith

-- its text
format-text : (sum : ℕ) (e : Event) → 5 ≤ length e.body
    → event_text (format_with sum e) ≡ (head (event_size e) e ++ take (length e.body - 5) e.body) ++ (0 ∷ little_bytes 4 sum)
unfolding head
format-text sum e room =
    text-head (format_with sum e) ∙ ap (λ (size : ℕ). head size e ++ (take (length e.body - 5) e.body ++ (0 ∷ little_bytes 4 sum))) (format-size sum e room)
    ∙ sym (append_assoc (head (event_size e) e) (take (length e.body - 5) e.body) (0 ∷ little_bytes 4 sum))

-- what its sum is taken of
format-summed : (e : Event) → 5 ≤ length e.body
    → take (event_size e - 4) (event_text (not_in_use (format_with 0 e))) ≡ flag_cleared (head (event_size e) e ++ take (length e.body - 5) e.body) ++ (0 ∷ [])
unfolding head
format-summed e room =
    let m : ℕ = length e.body - 5 in
    let front : List ℕ = take m e.body in
    let long : length front ≡ m = length-take-le m e.body (omega arith) in
    let place : event_size e - 4 ≡ 19 + (length front + 1) = omega arith in
    let clear : Event = not_in_use e in
    ap (λ (n : ℕ). take n (event_text (format_with 0 clear))) place
    ∙ text-front (format_with 0 clear) (length front + 1)
    ∙ ap (λ (size : ℕ). head size clear ++ take (length front + 1) (front ++ (0 ∷ little_bytes 4 0))) (format-size 0 clear room)
    ∙ ap (λ (rest : List ℕ). head (event_size e) clear ++ rest) (take-append-add front (0 ∷ little_bytes 4 0) 1)
    ∙ sym (append_assoc (head (event_size e) clear) front (0 ∷ []))
    ∙ ap (λ (front : List ℕ). front ++ (0 ∷ [])) (head-cleared (event_size e) e front)

-- it stands behind the mark: its bytes as far as the algorithm, the algorithm 0, and the sum of the bytes so far
pub format-put : (bytes front : List ℕ) (e : Event) → AreBytes bytes → take 4 bytes ≡ magic → event_at (drop 4 bytes) ≡ Some e → 5 ≤ length e.body
    → front ≡ take (4 + (event_size e - 5)) bytes
    → (front ++ (0 ∷ [])) ++ little_bytes 4 (crc32_of (flag_cleared (drop 4 front) ++ (0 ∷ []))) ≡ magic ++ event_text (plain_format e)
format-put bytes front e are mark found room is =
    let m : ℕ = length e.body - 5 in
    let text : List ℕ = head (event_size e) e ++ take m e.body in
    let sum : ℕ = crc32_of (flag_cleared text ++ (0 ∷ [])) in
    let stands = event-found (drop 4 bytes) e (bytes-drop 4 bytes are) found in
    let own = text-length e in
    let place : event_size e - 5 ≡ 19 + m = omega arith in
    let whole : bytes ≡ magic ++ drop 4 bytes = sym (take-append-drop 4 bytes) ∙ ap (λ (front : List ℕ). front ++ drop 4 bytes) mark in
    let behind : take (event_size e - 5) (drop 4 bytes) ≡ text =
    ap (take (event_size e - 5)) stands.1 ∙ take-append-le (event_size e - 5) (event_text e) (drop (event_size e) (drop 4 bytes)) (omega arith)
    ∙ ap (λ (n : ℕ). take n (event_text e)) place ∙ text-front e m in
    let front_is : front ≡ magic ++ text =
    is ∙ ap (take (4 + (event_size e - 5))) whole ∙ take-append-add magic (drop 4 bytes) (event_size e - 5) ∙ ap (λ (rest : List ℕ). magic ++ rest) behind in
    ap (λ (front : List ℕ). (front ++ (0 ∷ [])) ++ little_bytes 4 (crc32_of (flag_cleared (drop 4 front) ++ (0 ∷ [])))) front_is
    ∙ append_assoc (magic ++ text) (0 ∷ []) (little_bytes 4 sum)
    ∙ ap (λ (text : List ℕ). magic ++ text) (sym (format-text sum e room))
    ∙ ap (λ (summed : List ℕ). magic ++ event_text (format_with (crc32_of summed) e)) (sym (format-summed e room))
