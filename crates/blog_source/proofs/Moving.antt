-- Moving an event to the front of the bytes in which it stands.
use Rattle.std.proofs.Common.{◌≡◌, ℕ, ◌+◌, ◌-◌, ◌≤◌, Bool, List, ◌++◌, length, take, drop, true, false, Option, Some, None, [], ◌∷◌, refl, sym, ap, ◌∙◌, arith, append_assoc}
use Rattle.std.proofs.lemmas.List.{drop-drop, drop_at, length-append, length-drop, length-take-le, take-append-drop, take-append-le, take-take, take_at}
use Rattle.std.specs.Prelude.{nat_le, not}
use Rattle.std.specs.List.{flat_map}
use Rattle.std.proofs.lemmas.List.Concat.{flat_map-append}
use Rattle.std.proofs.lemmas.Bool.{leb-true}
use Rattle.std.proofs.lemmas.Option.{none-some}
use Rattle.blog_event.specs.declared.fault.Fault.TheVariants.{CutEvent}
use Rattle.blog_sum.specs.declared.fault.SumFault.{SumFault}
use Rattle.blog_sum.specs.declared.fault.SumFault.TheVariants.{Encrypted, Log, WrongSum}
use Rattle.blog_sum.specs.Sums.{ends_in_its_sum, unless}
use Rattle.blog_sum.proofs.Summed.{none-first}
use Rattle.blog_event.specs.Fault.{first_failing}
use Rattle.blog_source.specs.Found.{begins_encryption, check_of, is_wrong_sum, sums_check}
use Rattle.blog_event.specs.declared.event.Header.{Header}
use Rattle.byteorder.specs.Endian.{little_number}
use Rattle.blog_event.specs.Event.{Event, event_at, event_size, event_text}
use Rattle.blog_event.specs.File.{Placed, end_of}
use Rattle.blog_sum.specs.Plain.{ended_from}
use Rattle.blog_event.proofs.Framing.{event-at-gives}
use Rattle.blog_source.specs.declared.form.Form.{Form}
use Rattle.blog_source.specs.declared.form.Form.TheVariants.{Places, Plain}
use Rattle.blog_source.specs.declared.becoming.Becoming.{Becoming}
use Rattle.blog_source.specs.declared.becoming.Becoming.TheVariants.{Itself, Gtid, Begin, Nothing}
use Rattle.blog_source.specs.Becoming.{become_as, becoming_of}
use Rattle.blog_source.specs.Handed.{bare, handed}
use Rattle.blog_source.specs.Plain.{plainly}
use Rattle.blog_source.proofs.Ending.{ended-append}
use Rattle.blog_event.specs.Writing.{header_text}
use Rattle.blog_source.specs.code.Walk.{IsHeaderOf, cut_as, damaged_header, formed, moved, moved_bare, moved_size, put_as, put_text}
use borrow.Rule.Slice.PartMut.{put_mid}
use lib.Seq.{paste}

-- a part that was moved to the front, or is there already
pub part-moved : (old new : List ℕ) (at to n : ℕ) → new ≡ paste old to (drop at old) ((at + n) - at) → new ≡ take to old ++ (take n (drop at old) ++ drop (to + n) old)
part-moved old new at to n is =
    let len : (at + n) - at ≡ n = omega arith in
    is ∙ ap (λ (n : ℕ). paste old to (drop at old) n) len ∙ append_assoc (take to old) (take n (drop at old)) (drop (to + n) old)

pub part-there : (old : List ℕ) (at to n : ℕ) → to ≡ at → old ≡ take to old ++ (take n (drop at old) ++ drop (to + n) old)
part-there old at to n same =
    sym (take-append-drop to old) ∙ ap (λ (rest : List ℕ). take to old ++ rest) (sym (take-append-drop n (drop to old)))
    ∙ ap (λ (rest : List ℕ). take to old ++ (take n (drop to old) ++ rest)) (drop-drop n to old)
    ∙ ap (λ (at : ℕ). take to old ++ (take n (drop at old) ++ drop (to + n) old)) same

-- bytes whose part behind a header's place is moved, and then the header, are their front, the header, the part, and their rest
pub moved-bytes : (old body h : List ℕ) (at to n k : ℕ) → body ≡ take (to + 19) old ++ (take n (drop (at + 19) old) ++ drop (to + 19 + n) old) → length h ≡ 19 → k ≡ 19
    → to ≤ at → at + (19 + n) ≤ length old → put_mid to k body h ≡ (take to old ++ (h ++ take n (drop (at + 19) old))) ++ drop (to + (19 + n)) old
moved-bytes old body h at to n k is long k_is order within =
    let part : List ℕ = take n (drop (at + 19) old) in
    let front : List ℕ = take (to + 19) old in
    let rest : List ℕ = drop (to + 19 + n) old in
    let front_long : length front ≡ to + 19 = length-take-le (to + 19) old (omega arith) in
    let before : take to body ≡ take to old = ap (take to) is ∙ take-append-le to front (part ++ rest) (omega arith) ∙ take-take to (to + 19) old (omega arith) in
    let behind : drop (to + k) body ≡ part ++ rest = ap (λ (k : ℕ). drop (to + k) body) k_is ∙ ap (drop (to + 19)) is ∙ drop_at front (part ++ rest) (to + 19) front_long in
    let on : to + 19 + n ≡ to + (19 + n) = omega arith in
    ap (λ (rest : List ℕ). take to body ++ (h ++ rest)) (drop-drop k to body ∙ behind ∙ ap (λ (n : ℕ). part ++ drop n old) on)
    ∙ ap (λ (front : List ℕ). front ++ (h ++ (part ++ drop (to + (19 + n)) old))) before
    ∙ ap (λ (rest : List ℕ). take to old ++ rest) (sym (append_assoc h part (drop (to + (19 + n)) old)))
    ∙ sym (append_assoc (take to old) (h ++ part) (drop (to + (19 + n)) old))

-- so many bytes are in front of the rest
pub moved-long : (old h : List ℕ) (at to n : ℕ) → length h ≡ 19 → to ≤ at → at + (19 + n) ≤ length old
    → length (take to old ++ (h ++ take n (drop (at + 19) old))) ≡ to + (19 + n)
moved-long old h at to n long order within =
    let whole = length-append (take to old) (h ++ take n (drop (at + 19) old)) in
    let later = length-append h (take n (drop (at + 19) old)) in
    let front = length-take-le to old (omega arith) in
    let left = length-drop (at + 19) old in
    let part = length-take-le n (drop (at + 19) old) (omega arith) in
    omega arith

pub moved-front : (old body h : List ℕ) (at to n k : ℕ) → body ≡ take (to + 19) old ++ (take n (drop (at + 19) old) ++ drop (to + 19 + n) old) → length h ≡ 19 → k ≡ 19 → to ≤ at
    → at + (19 + n) ≤ length old → take (to + (19 + n)) (put_mid to k body h) ≡ take to old ++ (h ++ take n (drop (at + 19) old))
moved-front old body h at to n k body_is long k_is order within =
    ap (take (to + (19 + n))) (moved-bytes old body h at to n k body_is long k_is order within)
    ∙ take_at _ (drop (to + (19 + n)) old) (to + (19 + n)) (moved-long old h at to n long order within)

pub moved-behind : (old body h : List ℕ) (at to n k : ℕ) → body ≡ take (to + 19) old ++ (take n (drop (at + 19) old) ++ drop (to + 19 + n) old) → length h ≡ 19 → k ≡ 19 → to ≤ at
    → at + (19 + n) ≤ length old → drop (to + (19 + n)) (put_mid to k body h) ≡ drop (to + (19 + n)) old
moved-behind old body h at to n k body_is long k_is order within =
    ap (drop (to + (19 + n))) (moved-bytes old body h at to n k body_is long k_is order within)
    ∙ drop_at _ (drop (to + (19 + n)) old) (to + (19 + n)) (moved-long old h at to n long order within)

-- a part of so many bytes that was written over
pub part-long : (body h : List ℕ) (to k n : ℕ) → length h ≡ length (take k (drop to body)) → k ≡ n → to + n ≤ length body → length h ≡ n
part-long body h to k n is k_is fits =
    let left = length-drop to body in
    is ∙ length-take-le k (drop to body) (omega arith) ∙ k_is

-- ---- an event that is moved

-- a header and a body are the text of the event with these fields
pub header-body : (h : Header) (size log_pos kind flags : ℕ) (e : Event) → size ≡ event_size e → log_pos ≡ e.log_pos → kind ≡ e.kind
    → h.timestamp ≡ e.timestamp → h.server_id ≡ e.server_id → flags ≡ e.flags
    → header_text (record h { kind = kind; size = size; log_pos = log_pos; flags = flags }) ++ e.body ≡ event_text e
unfolding header_text event_text
header-body h size log_pos kind flags e size_is pos_is kind_is time_is server_is flags_is = rw (size_is, pos_is, kind_is, time_is, server_is, flags_is) refl

-- a header and a body, put one after the other
pub two-parts : (old h b : List ℕ) (to k m n : ℕ) → length h ≡ 19 → length b ≡ n → k ≡ 19 → m ≡ n → to + (19 + n) ≤ length old
    → put_mid (to + 19) m (put_mid to k old h) b ≡ (take to old ++ (h ++ b)) ++ drop (to + (19 + n)) old
two-parts old h b to k m n header body k_is m_is within =
    let one : List ℕ = put_mid to k old h in
    let front_long : length (take to old) ≡ to = length-take-le to old (omega arith) in
    let both = length-append (take to old) h in
    let rest : drop k (drop to old) ≡ drop (to + 19) old = drop-drop k to old ∙ ap (λ (k : ℕ). drop (to + k) old) k_is in
    let is : one ≡ (take to old ++ h) ++ drop (to + 19) old =
    ap (λ (rest : List ℕ). take to old ++ (h ++ rest)) rest ∙ sym (append_assoc (take to old) h (drop (to + 19) old)) in
    let before : take (to + 19) one ≡ take to old ++ h = ap (take (to + 19)) is ∙ take_at (take to old ++ h) (drop (to + 19) old) (to + 19) (omega arith) in
    let behind : drop (to + 19) one ≡ drop (to + 19) old = ap (drop (to + 19)) is ∙ drop_at (take to old ++ h) (drop (to + 19) old) (to + 19) (omega arith) in
    let on : to + 19 + m ≡ to + (19 + n) = omega arith in
    let left : drop m (drop (to + 19) one) ≡ drop (to + (19 + n)) old = ap (drop m) behind ∙ drop-drop m (to + 19) old ∙ ap (λ (n : ℕ). drop n old) on in
    (λ i. before i ++ (b ++ left i)) ∙ ap (λ (front : List ℕ). front) (sym (append_assoc (take to old ++ h) b (drop (to + (19 + n)) old)))
    ∙ ap (λ (front : List ℕ). front ++ drop (to + (19 + n)) old) (append_assoc (take to old) h b)

pub put-long : (old h : List ℕ) (to k : ℕ) → length h ≡ 19 → k ≡ 19 → to + 19 ≤ length old → length (put_mid to k old h) ≡ length old
put-long old h to k header k_is within =
    let front = length-take-le to old (omega arith) in
    let one = length-append h (drop k (drop to old)) in
    let all = length-append (take to old) (h ++ drop k (drop to old)) in
    let left = length-drop to old in
    let rest = length-drop k (drop to old) in
    omega arith

pub two-long : (old h b : List ℕ) (to n : ℕ) → length h ≡ 19 → length b ≡ n → to + (19 + n) ≤ length old → length (take to old ++ (h ++ b)) ≡ to + (19 + n)
two-long old h b to n header body within =
    let front = length-take-le to old (omega arith) in
    let later = length-append h b in
    let whole = length-append (take to old) (h ++ b) in
    omega arith

-- what is the same from a position on is so from a later one on
pub drops-more : (new old : List ℕ) (m n : ℕ) → drop m new ≡ drop m old → m ≤ n → drop n new ≡ drop n old
drops-more new old m n same order =
    let on : m + (n - m) ≡ n = omega arith in
    ap (λ (n : ℕ). drop n new) (sym on) ∙ sym (drop-drop (n - m) m new) ∙ ap (drop (n - m)) same ∙ drop-drop (n - m) m old ∙ ap (λ (n : ℕ). drop n old) on

-- ---- an event that is kept

-- its body is in the bytes
body-is : (bytes : List ℕ) (at : ℕ) (e : Event) → event_at (drop at bytes) ≡ Some e → e.body ≡ take (event_size e - 19) (drop (at + 19) bytes)
body-is bytes at e found =
    let gives = event-at-gives (drop at bytes) e found in
    let size : ℕ = little_number 4 (drop 9 (drop at bytes)) in
    let rest : List ℕ = drop 19 (drop at bytes) in
    let enough = gives.0.enough in
    let within = gives.0.within in
    let left = length-drop 19 (drop at bytes) in
    let body : take (size - 19) rest ≡ e.body = ap (λ (e : Event). e.body) gives.1 in
    let part = length-take-le (size - 19) rest (omega arith) in
    let long : length e.body ≡ size - 19 = ap length (sym body) ∙ part in
    let n : event_size e - 19 ≡ size - 19 = omega arith in
    sym body ∙ ap (λ (n : ℕ). take n rest) (sym n) ∙ ap (take (event_size e - 19)) (drop-drop 19 at bytes)

-- it is moved without its sum
moved-body : (sums : Bool) (bytes : List ℕ) (at size : ℕ) (e : Event) → event_at (drop at bytes) ≡ Some e → size ≡ event_size e → (sums ≡ true → 23 ≤ size)
    → (bare sums e).body ≡ take (moved_size sums size - 19) (drop (at + 19) bytes)
moved-body true bytes at size e found is room =
    let enough = room refl in
    let n : length e.body - 4 ≡ size - 4 - 19 = omega arith in
    let fewer : length e.body - 4 ≤ event_size e - 19 = omega arith in
    ap (take (length e.body - 4)) (body-is bytes at e found) ∙ take-take (length e.body - 4) (event_size e - 19) (drop (at + 19) bytes) fewer
    ∙ ap (λ (n : ℕ). take n (drop (at + 19) bytes)) n
moved-body false bytes at size e found is room = body-is bytes at e found ∙ ap (λ (size : ℕ). take (size - 19) (drop (at + 19) bytes)) (sym is)

-- it is the event that is moved, without a log_pos
pub bare-is : (sums : Bool) (bytes : List ℕ) (at : ℕ) (h : Header) (e : Event) → event_at (drop at bytes) ≡ Some e → IsHeaderOf e h
    → (sums ≡ true → 23 ≤ h.size) → record (bare sums e) { log_pos = 0 } ≡ moved_bare sums at h bytes
bare-is true bytes at h e found is room =
    let body = moved-body true bytes at h.size e found is.size room in
    λ i. record { timestamp = sym is.timestamp i; kind = sym is.kind i; server_id = sym is.server_id i; log_pos = 0; flags = sym is.flags i; body = body i }
bare-is false bytes at h e found is room =
    let body = moved-body false bytes at h.size e found is.size room in
    λ i. record { timestamp = sym is.timestamp i; kind = sym is.kind i; server_id = sym is.server_id i; log_pos = 0; flags = sym is.flags i; body = body i }

-- what is put for an event doesn't go by its own log_pos
placed-same : (form : Form) (at to : ℕ) (e : Event) → put_as form at to (formed form (record e { log_pos = 0 })) ≡ put_as form at to (formed form e)
placed-same form at to e = by_case (becoming_of e.kind e.body)
  where
    by_case : (r : Becoming) → put_as form at to (become_as (cut_as form) r (record e { log_pos = 0 })) ≡ put_as form at to (become_as (cut_as form) r e)
    by_case Itself = refl
    by_case Gtid = refl
    by_case Begin = refl
    by_case Nothing = refl

-- in the plain form it says where it ends
ended-one : (at to : ℕ) (e : Event) → (ended_from to (plainly e) ≡ put_as Plain at to (formed Plain e)) × (end_of to (plainly e) ≡ end_of to (put_as Plain at to (formed Plain e)))
ended-one at to e = by_case (becoming_of e.kind e.body)
  where
    by_case : (r : Becoming) → (ended_from to (become_as (take 25) r e) ≡ put_as Plain at to (become_as (take 25) r e))
        × (end_of to (become_as (take 25) r e) ≡ end_of to (put_as Plain at to (become_as (take 25) r e)))
    by_case Itself = (refl, refl)
    by_case Gtid = (refl, refl)
    by_case Begin = (refl, refl)
    by_case Nothing = (refl, refl)

-- the same of a damaged event
pub damaged-is : (sums : Bool) (bytes : List ℕ) (at : ℕ) (h : Header) (e : Event) → event_at (drop at bytes) ≡ Some e → IsHeaderOf e h
    → (sums ≡ true → 23 ≤ h.size) → record (bare sums (record e { kind = 255; flags = e.kind })) { log_pos = 0 } ≡ moved_bare sums at (damaged_header h) bytes
damaged-is true bytes at h e found is room =
    let body = moved-body true bytes at h.size e found is.size room in
    λ i. record { timestamp = sym is.timestamp i; kind = 255; server_id = sym is.server_id i; log_pos = 0; flags = sym is.kind i; body = body i }
damaged-is false bytes at h e found is room =
    let body = moved-body false bytes at h.size e found is.size room in
    λ i. record { timestamp = sym is.timestamp i; kind = 255; server_id = sym is.server_id i; log_pos = 0; flags = sym is.kind i; body = body i }

-- what is put for it, and for those behind it
pub kept-text : (form : Form) (sums : Bool) (bytes : List ℕ) (at to : ℕ) (h : Header) (e : Event) (ps : List Placed) → record (bare sums e) { log_pos = 0 } ≡ moved_bare sums at h bytes
    → put_text form sums to (record { pos = at; event = e } ∷ ps) ≡ flat_map event_text (moved form sums to at h bytes) ++ put_text form sums (end_of to (moved form sums to at h bytes)) ps
kept-text Places sums bytes at to h e ps moved_is =
    let moves = sym (placed-same Places at to (bare sums e)) ∙ ap (λ (e : Event). put_as Places at to (formed Places e)) moved_is in
    flat_map-append event_text (put_as Places at to (formed Places (bare sums e))) (flat_map (handed sums) ps)
    ∙ (λ i. flat_map event_text (moves i) ++ put_text Places sums (end_of to (moves i)) ps)
kept-text Plain sums bytes at to h e ps moved_is =
    let moves = sym (placed-same Plain at to (bare sums e)) ∙ ap (λ (e : Event). put_as Plain at to (formed Plain e)) moved_is in
    let one = ended-one at to (bare sums e) in
    let later : List Event = flat_map (λ (p : Placed). plainly (bare sums p.event)) ps in
    ap (flat_map event_text) (ended-append to (plainly (bare sums e)) later)
    ∙ flat_map-append event_text (ended_from to (plainly (bare sums e))) (ended_from (end_of to (plainly (bare sums e))) later)
    ∙ (λ i. flat_map event_text (one.0 i) ++ put_text Plain sums (one.1 i) ps)
    ∙ (λ i. flat_map event_text (moves i) ++ put_text Plain sums (end_of to (moves i)) ps)

-- ---- the checks of an event

-- one with a sum has room for it
unless-none : (test : Bool) (fault : SumFault) → unless test fault ≡ None → test ≡ true
unless-none true fault none = refl
unless-none false fault none = absurd (none-some fault (sym none))

-- a wrong sum is found by the check of the sum
wrong-first : (check : Option SumFault) (test : Bool) (pos : ℕ) (fault : SumFault) → first_failing (check ∷ unless test (Encrypted pos) ∷ []) ≡ Some fault
    → is_wrong_sum (Some fault) ≡ true → check ≡ Some fault
wrong-first (Some found) test pos fault first wrong = first
wrong-first None true pos fault first wrong = absurd (none-some fault first)
wrong-first None false pos fault first wrong = absurd (cc)

-- so has one whose sum is wrong
cut-isnt-wrong : (test other : Bool) (pos : ℕ) (fault : SumFault) → first_failing (unless test (Log (CutEvent pos)) ∷ unless other (WrongSum pos) ∷ []) ≡ Some fault
    → is_wrong_sum (Some fault) ≡ true → test ≡ true
cut-isnt-wrong true other pos fault first wrong = refl
cut-isnt-wrong false other pos fault first wrong = absurd (cc)

pub wrong-has-room : (sums : Bool) (p : Placed) (fault : SumFault) → check_of sums p ≡ Some fault → is_wrong_sum (Some fault) ≡ true → sums ≡ true → 23 ≤ event_size p.event
wrong-has-room true p fault fails wrong is =
    leb-true 23 (event_size p.event) (cut-isnt-wrong (nat_le 23 (event_size p.event)) (ends_in_its_sum (event_text p.event)) p.pos fault
    (wrong-first (sums_check true p) (not (begins_encryption p.event)) p.pos fault fails wrong) wrong)
wrong-has-room false p fault fails wrong is = absurd (cc)

pub has-room : (sums : Bool) (p : Placed) → check_of sums p ≡ None → sums ≡ true → 23 ≤ event_size p.event
has-room true p passes is =
    let own = none-first (sums_check true p) (unless (not (begins_encryption p.event)) (Encrypted p.pos) ∷ []) passes in
    let room = none-first (unless (nat_le 23 (event_size p.event)) (Log (CutEvent p.pos))) (unless (ends_in_its_sum (event_text p.event)) (WrongSum p.pos) ∷ []) own.0 in
    leb-true 23 (event_size p.event) (unless-none (nat_le 23 (event_size p.event)) (Log (CutEvent p.pos)) room.0)
has-room false p passes is = absurd (cc)
