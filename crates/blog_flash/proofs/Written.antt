-- A log that is laid out is read again, is accepted, and has the groups that were laid out.
use Rattle.std.proofs.Common.{◌≡◌, ℕ, ◌+◌, ◌≤◌, ◌<◌, ◌^◌, true, List, [], ◌∷◌, length, take, map, reverse, None, bytes_eq, refl, ap, ◌∙◌, arith}
use Rattle.std.specs.List.{AllByRecursion}
use Rattle.std.proofs.lemmas.Bool.{lt-ltb, le-ltb, le-leb, eq-eqb}
use Rattle.blog_event.specs.Fault.{first_failing}
use Rattle.blog_event.specs.Event.{Event, event_size, IsEvent}
use Rattle.blog_event.specs.File.{magic, Placed, placed_from, end_of, read}
use Rattle.blog_event.specs.Format.{format_fault}
use Rattle.blog_event.proofs.Framing.{read-again}
use Rattle.blog_trans.specs.declared.place.Place.TheVariants.{Outside}
use Rattle.blog_trans.specs.Selection.{all}
use Rattle.blog_trans.specs.Places.{place}
use Rattle.blog_trans.specs.Acceptance.{is_in_range, range, first_read_fault, lines, fault, IsAccepted, Passes}
use Rattle.blog_trans.specs.Groups.{Transaction, transaction_value, placed_groups_in, placed_groups, groups}
use Rattle.blog_flash.specs.Texts.{group_events, with_log_pos, laid_out}
use Rattle.blog_flash.proofs.Formed.{Fits, Agree, AreGroups}
use Rattle.blog_flash.proofs.Standing.{stood}
use Rattle.blog_flash.proofs.Forming.{events-fit}
use Rattle.blog_flash.proofs.Passing.{groups-pass}
use Rattle.blog_flash.proofs.Regrouping.{groups-again}
use Rattle.blog_flash.proofs.Lengths.{end-total, total-placed, laid-out-length}

-- groups that can be laid out behind a format description
pub record IsWritable (Known : Event → Type 0) (format : Event) (ts : List Transaction) : Type 0 where
  pub are_groups : AreGroups Known ts
  pub agree : Agree Known
  pub served : format_fault format ≡ None
  pub event : IsEvent format
  pub short : length (laid_out format ts) < 2 ^ 32

-- groups that can be laid out behind an event, and read again
pub record IsReadable (Known : Event → Type 0) (format : Event) (ts : List Transaction) : Type 0 where
  pub are_groups : AreGroups Known ts
  pub event : IsEvent format
  pub short : length (laid_out format ts) < 2 ^ 32

readable : (Known : Event → Type 0) (format : Event) (ts : List Transaction) → IsWritable Known format ts → IsReadable Known format ts
readable Known format ts h = record { are_groups = h.are_groups; event = h.event; short = h.short }

-- the events of the log that is laid out
abbrev pub written_events : Event → List Transaction → List Event
written_events format ts = format ∷ with_log_pos (4 + event_size format) (group_events ts)

-- ---- what is read of it

-- events that are laid out from a position on are events, where they end soon enough
placed-events : (pos : ℕ) (es : List Event) → end_of pos es < 2 ^ 32 → AllByRecursion Fits es → AllByRecursion IsEvent (with_log_pos pos es)
placed-events pos [] short fits = tt
placed-events pos (e ∷ es) short fits =
    let end = end-total (pos + event_size e) es in (omega (arith, fits.0), placed-events (pos + event_size e) es short fits.1)

-- they are events
written-are : (Known : Event → Type 0) (format : Event) (ts : List Transaction) → IsReadable Known format ts → AllByRecursion IsEvent (written_events format ts)
written-are Known format ts h =
    (h.event, placed-events (4 + event_size format) (group_events ts) (omega (arith, end-total (4 + event_size format) (group_events ts), laid-out-length format ts, h.short)) (events-fit Known ts h.are_groups))

-- what is laid out is read again
pub laid-read : (Known : Event → Type 0) (format : Event) (ts : List Transaction) → IsReadable Known format ts → read (laid_out format ts) None ≡ written_events format ts
unfolding laid_out
laid-read Known format ts h = read-again format (with_log_pos (4 + event_size format) (group_events ts)) (written-are Known format ts h)

pub written-read : (Known : Event → Type 0) (format : Event) (ts : List Transaction) → IsWritable Known format ts → read (laid_out format ts) None ≡ written_events format ts
written-read Known format ts h = laid-read Known format ts (readable Known format ts h)

-- ---- the range

-- an event behind the one at 4 is in the range
pub in-range : (p : Placed) → 4 < p.pos → is_in_range all p ≡ true
in-range p behind = rw (lt-ltb 4 p.pos behind) (le-leb 4 p.pos (omega arith))

-- events behind the one at 4 are all of their range
pub range-all : (pos : ℕ) (es : List Event) → 4 < pos → range all (placed_from pos es) ≡ placed_from pos es
range-all pos [] behind = refl
range-all pos (e ∷ es) behind =
    rw (in-range (record { pos = pos; event = e }) behind) (ap (λ ps. record { pos = pos; event = e } ∷ ps) (range-all (pos + event_size e) es (omega arith)))

-- the range of what is written has the events of the groups
written-range : (format : Event) (ts : List Transaction) → range all (placed_from 4 (written_events format ts)) ≡ stood (4 + event_size format) (group_events ts)
written-range format ts = range-all (4 + event_size format) (with_log_pos (4 + event_size format) (group_events ts)) (omega arith)

-- ---- acceptance

-- it begins with the magic number
laid-mark : (format : Event) (ts : List Transaction) → bytes_eq (take 4 (laid_out format ts)) magic ≡ true
unfolding laid_out
laid-mark format ts = refl

-- events that pass have no fault, where they stand behind the one at 4
pass-read : (pos : ℕ) (es : List Event) (earlier before : List Placed) → range all before ≡ earlier → 4 < pos → Passes all earlier (placed_from pos es)
    → first_read_fault all before (placed_from pos es) ≡ None
pass-read pos [] earlier before is behind pass = refl
pass-read pos (e ∷ es) earlier before is behind pass =
    let p : Placed = record { pos = pos; event = e } in
    let others = pass-read (pos + event_size e) es (p ∷ earlier) (p ∷ before) (rw (in-range p behind, is) refl) (omega arith) pass.1 in
    rw (in-range p behind, le-ltb pos 4 (omega arith), is, pass.0, others) refl

-- a log is accepted whose lines have no fault
lines-pass : (bytes : List ℕ) (format : Event) (rest : List Event) → length bytes < 2 ^ 32 → bytes_eq (take 4 bytes) magic ≡ true → format_fault format ≡ None
    → first_read_fault all (record { pos = 4; event = format } ∷ []) (placed_from (4 + event_size format) rest) ≡ None → end_of (4 + event_size format) rest ≡ length bytes → 4 ≤ length bytes
    → place (reverse (range all (placed_from (4 + event_size format) rest))) ≡ Outside → first_failing (lines bytes all (format ∷ rest)) ≡ None
lines-pass bytes format rest short mark served passes end long outside =
    rw (lt-ltb (length bytes) (2 ^ 32) short, mark, served, passes, eq-eqb (end_of (4 + event_size format) rest) (length bytes) end, le-ltb (length bytes) 4 long, outside) refl

-- what is laid out is accepted
pub written-accepted : (Known : Event → Type 0) (format : Event) (ts : List Transaction) → IsWritable Known format ts → IsAccepted (laid_out format ts) all
unfolding fault
written-accepted Known format ts h =
    let from : ℕ = 4 + event_size format in
    let rest : List Event = with_log_pos from (group_events ts) in
    let pass = groups-pass Known h.agree [] from ts (record { outside = refl; known = tt }) h.are_groups in
    let passes = pass-read from rest [] (record { pos = 4; event = format } ∷ []) refl (omega arith) pass.0 in
    let end : end_of from rest ≡ length (laid_out format ts) = omega (arith, end-total from rest, total-placed from (group_events ts), laid-out-length format ts) in
    ap (λ es. first_failing (lines (laid_out format ts) all es)) (written-read Known format ts h)
    ∙ lines-pass (laid_out format ts) format rest h.short (laid-mark format ts) h.served passes end (omega (arith, laid-out-length format ts))
    (ap (λ ps. place (reverse ps)) (written-range format ts) ∙ pass.1.outside)

-- ---- groups

-- its groups are those that were laid out
pub laid-groups : (Known : Event → Type 0) (format : Event) (ts : List Transaction) → IsReadable Known format ts → groups (laid_out format ts) all ≡ ts
unfolding groups placed_groups
laid-groups Known format ts h =
    ap (λ es. map transaction_value (placed_groups_in all (range all (placed_from 4 es)))) (laid-read Known format ts h)
    ∙ ap (λ ps. map transaction_value (placed_groups_in all ps)) (written-range format ts)
    ∙ groups-again Known (4 + event_size format) ts h.are_groups

pub written-groups : (Known : Event → Type 0) (format : Event) (ts : List Transaction) → IsWritable Known format ts → groups (laid_out format ts) all ≡ ts
written-groups Known format ts h = laid-groups Known format ts (readable Known format ts h)
