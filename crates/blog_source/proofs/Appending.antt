-- Putting the events of a further log behind others, one by one.
use Rattle.std.proofs.Common.{◌≡◌, ℕ, ◌+◌, ◌-◌, ◌<◌, ◌≤◌, ◌^◌, List, [], ◌∷◌, ◌++◌, length, take, drop, map, None, Some, refl, sym, ap, subst, ◌∙◌, arith, append_assoc, length-append, length-drop, length-take}
use Rattle.std.specs.Prelude.{nat_le, slice_index}
use Rattle.std.specs.List.{AllByRecursion, flat_map}
use Rattle.std.proofs.lemmas.Bool.{le-leb}
use Rattle.std.proofs.lemmas.List.{append-nil, drop-append-le, get_or_append_left, take-append-le}
use Rattle.byteorder.specs.Endian.{little_number}
use Rattle.byteorder.specs.Numbers.{little_from-append}
use Rattle.blog_event.specs.declared.event.Header.{Header}
use Rattle.blog_event.specs.Event.{Event, event_at, event_of, event_size, event_text}
use Rattle.blog_event.specs.File.{events_from, magic}
use Rattle.blog_event.specs.Opening.{IsLog, opening_fault}
use Rattle.blog_event.specs.Writing.{header_text}
use Rattle.blog_event.proofs.Framing.{event-at-gives, front_event}
use Rattle.blog_event.proofs.Items.{events-left-more, events-left-none}
use Rattle.blog_event.proofs.Openings.{opens_logs}
use Rattle.blog_source.specs.Appended.{appended, behind_format, moved_on}
use Rattle.blog_source.specs.Places.{first_of}
use Rattle.blog_source.proofs.Moving.{header-body}

-- the text of events of a log that begins at a place, from a position on
abbrev pub moved_left : ℕ → List ℕ → ℕ → List ℕ
moved_left start log at = flat_map event_text (map (moved_on start) (events_from (length log) None at (drop at log)))

-- each of their places is short
abbrev pub AreShortFrom : ℕ → List ℕ → ℕ → Type 0
AreShortFrom start log at = AllByRecursion (λ e. start + e.log_pos < 2 ^ 32) (events_from (length log) None at (drop at log))

-- none is left
pub moved-none : (start : ℕ) (log out : List ℕ) (at : ℕ) → event_at (drop at log) ≡ None → out ++ moved_left start log at ≡ out
moved-none start log out at none =
    ap (λ (es : List Event). out ++ flat_map event_text (map (moved_on start) es)) (events-left-none log at none) ∙ append-nil out

-- one is put, and those behind it are left
pub moved-more : (start : ℕ) (log out : List ℕ) (at : ℕ) (e : Event) (h : Header) (place : ℕ) → event_at (drop at log) ≡ Some e → h.size ≡ event_size e → place ≡ start + e.log_pos
    → h.kind ≡ e.kind → h.timestamp ≡ e.timestamp → h.server_id ≡ e.server_id → h.flags ≡ e.flags
    → (out ++ (header_text (record h { log_pos = place }) ++ e.body)) ++ moved_left start log (at + h.size) ≡ out ++ moved_left start log at
moved-more start log out at e h place stands is pos kind time server flags =
    let text : header_text (record h { log_pos = place }) ++ e.body ≡ event_text (moved_on start e) =
    header-body h h.size place h.kind h.flags (moved_on start e) is pos kind time server flags in
    append_assoc out (header_text (record h { log_pos = place }) ++ e.body) (moved_left start log (at + h.size))
    ∙ ap (λ (text : List ℕ). out ++ (text ++ moved_left start log (at + h.size))) text
    ∙ ap (λ (size : ℕ). out ++ (event_text (moved_on start e) ++ moved_left start log (at + size))) is
    ∙ ap (λ (es : List Event). out ++ flat_map event_text (map (moved_on start) es)) (sym (events-left-more log at e stands))

-- their places
pub short-more : (start : ℕ) (log : List ℕ) (at size : ℕ) (e : Event) → event_at (drop at log) ≡ Some e → size ≡ event_size e → AreShortFrom start log at
    → (start + e.log_pos < 2 ^ 32) × AreShortFrom start log (at + size)
short-more start log at size e stands is short =
    let both = subst (AllByRecursion (λ e. start + e.log_pos < 2 ^ 32)) (events-left-more log at e stands) short in
    (both.0, subst (λ (size : ℕ). AreShortFrom start log (at + size)) (sym is) both.1)

-- ---- what is put behind a log leaves its front

-- the event at the front of bytes is there with more bytes
number-longer : (n k : ℕ) (bytes rest : List ℕ) → k + n ≤ length bytes → little_number n (drop k (bytes ++ rest)) ≡ little_number n (drop k bytes)
number-longer n k bytes rest within =
    ap (little_number n) (drop-append-le k bytes rest (omega arith)) ∙ little_from-append n (drop k bytes) rest (omega (arith, length-drop k bytes))

pub event-longer : (bytes rest : List ℕ) (e : Event) → event_at bytes ≡ Some e → event_at (bytes ++ rest) ≡ Some e
unfolding event_at
event-longer bytes rest e stands =
    let given = event-at-gives bytes e stands in
    let front = given.0 in
    let size : ℕ = little_number 4 (drop 9 bytes) in
    let long = front.long in
    let enough = front.enough in
    let within = front.within in
    let more = length-append bytes rest in
    let size_is : little_number 4 (drop 9 (bytes ++ rest)) ≡ size = number-longer 4 9 bytes rest (omega arith) in
    let header = le-leb 19 (length (bytes ++ rest)) (omega arith) in
    let least = le-leb 19 size enough in
    let most = le-leb size (length (bytes ++ rest)) (omega arith) in
    let time : little_number 4 (bytes ++ rest) ≡ little_number 4 bytes = little_from-append 4 bytes rest (omega arith) in
    let kind : slice_index (bytes ++ rest) 4 ≡ slice_index bytes 4 = get_or_append_left bytes rest 0 4 (omega arith) in
    let server = number-longer 4 5 bytes rest (omega arith) in
    let pos = number-longer 4 13 bytes rest (omega arith) in
    let flags = number-longer 2 17 bytes rest (omega arith) in
    let body : take (size - 19) (drop 19 (bytes ++ rest)) ≡ take (size - 19) (drop 19 bytes) =
    ap (take (size - 19)) (drop-append-le 19 bytes rest (omega arith)) ∙ take-append-le (size - 19) (drop 19 bytes) rest (omega (arith, length-drop 19 bytes)) in
    rw (size_is, header, least, most, time, kind, server, pos, flags, body) (ap Some given.1)

-- a log that opens opens with more events
pub opens-longer : (log rest : List ℕ) → opening_fault log ≡ None → length (log ++ rest) < 2 ^ 32 → opening_fault (log ++ rest) ≡ None
opens-longer log rest opened short =
    let is = (opens_logs log).opened opened in
    let there : IsLog log is.0 = is.1 in
    let four : 4 ≤ length log = omega (arith, ap length there.mark, length-take 4 log) in
    (opens_logs (log ++ rest)).opens is.0 (record {
      short = short;
      mark = take-append-le 4 log rest four ∙ there.mark;
      stands = ap event_at (drop-append-le 4 log rest four) ∙ event-longer (drop 4 log) rest is.0 there.stands;
      accepted = there.accepted;
    })

-- ---- all of it

-- what is put is what is handed out for all logs
pub all-put : (log further new : List ℕ) (end first : ℕ) → first ≡ first_of further → new ≡ log ++ moved_left end further first → new ≡ appended log end further
unfolding appended
all-put log further new end first is put = put ∙ ap (λ (first : ℕ). log ++ moved_left end further first) is

-- and opens
pub appended-opens : (log further new : List ℕ) (end : ℕ) → new ≡ appended log end further → opening_fault log ≡ None → length new < 2 ^ 32 → opening_fault new ≡ None
unfolding appended
appended-opens log further new end is opened short =
    let rest : List ℕ = flat_map event_text (map (moved_on end) (behind_format further)) in
    ap opening_fault is ∙ opens-longer log rest opened (subst (λ (b : List ℕ). length b < 2 ^ 32) is short)
