-- The events behind a position, and positions at which events end.
use Rattle.std.proofs.Common.{◌≡◌, ℕ, ◌+◌, ◌≤◌, ◌<◌, Bool, true, false, ◌&&◌, nat_lt, List, [], ◌∷◌, length, drop, Option, Some, None, refl, sym, subst, ap, ◌∙◌, inl, arith}
use Rattle.std.specs.Prelude.{filter, nat_le}
use Rattle.std.proofs.lemmas.Bool.{cond-false, cond-true, le-leb, le-ltb, lt-leb, lt-ltb, ltb-true}
use Rattle.std.proofs.lemmas.List.{length-drop}
use Rattle.std.proofs.lemmas.Option.{same_Some}
use Rattle.blog_event.specs.declared.event.Event as told
use Rattle.blog_event.specs.Event.{Event, event_at, event_of, event_size}
use Rattle.blog_event.specs.File.{Placed, placed_from, end_of, events_from, read}
use Rattle.blog_event.specs.code.Going.{AreRead}
use Rattle.blog_event.specs.Opening.{opening_fault}
use Rattle.blog_event.proofs.Going.{are-read-only, event-within, opened-reads-on}
use Rattle.blog_event.proofs.Items.{are-left, events-left-more, events-left-none}
use Rattle.blog_event.proofs.Opened.{LogReads}
use Rattle.blog_trans.specs.Places.{placed}
use Rattle.blog_trans.specs.code.WalkView.{Lead, IsReached, IsPassedBy}
use Rattle.blog_trans.specs.Selection.{Selection}
use Rattle.blog_units.specs.Units.{is_behind, units, units_in}
use Rattle.blog_units.specs.code.Boundaries.{IsBoundary, events_behind}

-- ---- the events behind a position

-- an event that stands there is the first
pub behind-more : (bytes : List ℕ) (at : ℕ) (e : Event) → event_at (drop at bytes) ≡ Some e
    → events_behind bytes at ≡ record { pos = at; event = e } ∷ events_behind bytes (at + event_size e)
behind-more bytes at e stands = ap (placed_from at) (events-left-more bytes at e stands)

-- the same of an event of the program
pub behind-event : (bytes : List ℕ) (at : ℕ) (e : told.Event) → event_at (drop at bytes) ≡ Some (event_of e) → e.pos ≡ at → e.header.size ≡ event_size (event_of e)
    → events_behind bytes at ≡ placed e ∷ events_behind bytes (at + e.header.size)
behind-event bytes at e stands pos size =
    behind-more bytes at (event_of e) stands
    ∙ (λ i. record { pos = sym pos i; event = event_of e } ∷ events_behind bytes (at + sym size i))

-- where none stands, none follows
pub behind-none : (bytes : List ℕ) (at : ℕ) → event_at (drop at bytes) ≡ None → events_behind bytes at ≡ []
behind-none bytes at none = ap (placed_from at) (events-left-none bytes at none)

-- those of a log behind its first
pub events-first : (bytes : List ℕ) (at : ℕ) → LogReads bytes None at → drop 1 (placed_from 4 (read bytes None)) ≡ events_behind bytes at
events-first bytes at reads =
    let same = are-read-only bytes None at _ reads.later (are-left bytes at) reads.left.are in
    ap (λ (es : List Event). drop 1 (placed_from 4 es)) reads.read_is
    ∙ ap (λ (n : ℕ). placed_from n reads.later) reads.starts
    ∙ ap (placed_from at) same

pub behind-first : (bytes : List ℕ) (at : ℕ) → LogReads bytes None at → units bytes ≡ units_in None (events_behind bytes at)
unfolding units
behind-first bytes at reads = ap (units_in None) (events-first bytes at reads)

-- ---- those from a position on

-- an event in front of it is left out
pub front-out : (bytes : List ℕ) (at pos : ℕ) (p : Placed) (rest : List Placed) → events_behind bytes pos ≡ p ∷ rest → p.pos ≡ pos → pos < at
    → filter (λ p. nat_le at p.pos) (events_behind bytes pos) ≡ filter (λ p. nat_le at p.pos) rest
front-out bytes at pos p rest first is below =
    ap (filter (λ p. nat_le at p.pos)) first
    ∙ cond-false (nat_le at p.pos) (p ∷ filter (λ p. nat_le at p.pos) rest) (filter (λ p. nat_le at p.pos) rest) (lt-leb at p.pos (omega (arith, is, below)))

all-from : (at pos : ℕ) (es : List Event) → at ≤ pos → filter (λ p. nat_le at p.pos) (placed_from pos es) ≡ placed_from pos es
all-from at pos [] behind = refl
all-from at pos (e ∷ es) behind =
    let rest = placed_from (pos + event_size e) es in
    cond-true (nat_le at pos) (record { pos = pos; event = e } ∷ filter (λ p. nat_le at p.pos) rest) (filter (λ p. nat_le at p.pos) rest) (le-leb at pos behind)
    ∙ ap (λ (ps : List Placed). record { pos = pos; event = e } ∷ ps) (all-from at (pos + event_size e) es (omega (arith, behind)))

-- those behind it are all
pub all-behind : (bytes : List ℕ) (at pos : ℕ) → at ≤ pos → filter (λ p. nat_le at p.pos) (events_behind bytes pos) ≡ events_behind bytes pos
all-behind bytes at pos behind = all-from at pos (events_from (length bytes) None pos (drop pos bytes)) behind

-- ---- boundaries

-- events lead from a position to another: each stands where the one before ends
abbrev LeadTo : List ℕ → ℕ → ℕ → List Event → Type 0
LeadTo bytes at to [] = at ≡ to
LeadTo bytes at to (e ∷ es) = (event_at (drop at bytes) ≡ Some e) × LeadTo bytes (at + event_size e) to es

-- a position to which the first event and those behind it lead
record Leads (bytes : List ℕ) (at : ℕ) : Type 0 where
  first : Event
  later : List Event
  stands : event_at (drop 4 bytes) ≡ Some first
  lead : LeadTo bytes (4 + event_size first) at later

lead-read : (bytes : List ℕ) (stop : Option ℕ) (to at : ℕ) (es : List Event) → AreRead bytes stop at es → end_of at es ≡ to → LeadTo bytes at to es
lead-read bytes stop to at [] read is = is
lead-read bytes stop to at (e ∷ es) (below, stands, read) is = (stands, lead-read bytes stop to (at + event_size e) es read is)

lead-order : (bytes : List ℕ) (at to : ℕ) (es : List Event) → LeadTo bytes at to es → at ≤ to
lead-order bytes at to [] is = omega (arith, is)
lead-order bytes at to (e ∷ es) (here, lead) = let later = lead-order bytes (at + event_size e) to es lead in omega (arith, later)

read-lead : (bytes : List ℕ) (at to : ℕ) (es : List Event) → LeadTo bytes at to es → AreRead bytes (Some to) at es
read-lead bytes at to [] is = inl (le-ltb at to (omega (arith, is)))
read-lead bytes at to (e ∷ es) (here, lead) =
    let later = lead-order bytes (at + event_size e) to es lead in
    (lt-ltb at to (omega (arith, later)), here, read-lead bytes (at + event_size e) to es lead)

lead-ends : (bytes : List ℕ) (at to : ℕ) (es : List Event) → LeadTo bytes at to es → end_of at es ≡ to
lead-ends bytes at to [] is = is
lead-ends bytes at to (e ∷ es) (here, lead) = lead-ends bytes (at + event_size e) to es lead

-- a boundary is such a position
boundary-leads : (bytes : List ℕ) (at : ℕ) → opening_fault bytes ≡ None → IsBoundary bytes at → Leads bytes at
boundary-leads bytes at opened is =
    let on = opened-reads-on bytes (Some at) opened in
    record {
      first = on.first;
      later = on.later;
      stands = on.stands;
      lead = lead-read bytes (Some at) at (4 + event_size on.first) on.later on.left.are (ap (end_of 4) (sym on.read_is) ∙ is);
    }

leads-boundary : (bytes : List ℕ) (at : ℕ) → opening_fault bytes ≡ None → Leads bytes at → IsBoundary bytes at
leads-boundary bytes at opened leads =
    let on = opened-reads-on bytes (Some at) opened in
    let first_is : on.first ≡ leads.first = same_Some on.first leads.first (sym on.stands ∙ leads.stands) in
    let also : AreRead bytes (Some at) (4 + event_size on.first) leads.later =
    subst (λ (e : Event). AreRead bytes (Some at) (4 + event_size e) leads.later) (sym first_is) (read-lead bytes (4 + event_size leads.first) at leads.later leads.lead) in
    let later_is = on.left.only leads.later also in
    ap (end_of 4) on.read_is ∙ ap (λ (es : List Event). end_of (4 + event_size on.first) es) (sym later_is)
    ∙ ap (λ (e : Event). end_of (4 + event_size e) leads.later) first_is ∙ lead-ends bytes (4 + event_size leads.first) at leads.later leads.lead

-- behind the first event
pub boundary-first : (bytes : List ℕ) (at : ℕ) (stop : Option ℕ) → opening_fault bytes ≡ None → LogReads bytes stop at → IsBoundary bytes at
boundary-first bytes at stop opened reads = leads-boundary bytes at opened (record { first = reads.first; later = []; stands = reads.stands; lead = reads.starts })

lead-more : (bytes : List ℕ) (at to : ℕ) (es : List Event) (e : Event) → LeadTo bytes at to es → event_at (drop to bytes) ≡ Some e
    → (more : List Event) × LeadTo bytes at (to + event_size e) more
lead-more bytes at to [] e is stands = (e ∷ [], (subst (λ (n : ℕ). event_at (drop n bytes) ≡ Some e) (sym is) stands, ap (λ (n : ℕ). n + event_size e) is))
lead-more bytes at to (x ∷ es) e (here, lead) stands =
    let more = lead-more bytes (at + event_size x) to es e lead stands in (x ∷ more.0, (here, more.1))

-- behind an event that stands at one
pub boundary-more : (bytes : List ℕ) (at : ℕ) (e : Event) (n : ℕ) → opening_fault bytes ≡ None → IsBoundary bytes at → event_at (drop at bytes) ≡ Some e → n ≡ event_size e → IsBoundary bytes (at + n)
boundary-more bytes at e n opened is here size =
    let leads = boundary-leads bytes at opened is in
    let more = lead-more bytes (4 + event_size leads.first) at leads.later e leads.lead here in
    subst (λ (n : ℕ). IsBoundary bytes (at + n)) (sym size)
    (leads-boundary bytes (at + event_size e) opened (record { first = leads.first; later = more.0; stands = leads.stands; lead = more.1 }))

lead-within : (bytes : List ℕ) (at to : ℕ) (es : List Event) → LeadTo bytes at to es → at ≤ length bytes → to ≤ length bytes
lead-within bytes at to [] is within = subst (λ (n : ℕ). n ≤ length bytes) is within
lead-within bytes at to (e ∷ es) (here, lead) within =
    let fits = event-within (drop at bytes) e here in lead-within bytes (at + event_size e) to es lead (omega (arith, within, length-drop at bytes))

-- they lie within the log
pub boundary-within : (bytes : List ℕ) (at : ℕ) → opening_fault bytes ≡ None → IsBoundary bytes at → at ≤ length bytes
boundary-within bytes at opened is =
    let leads = boundary-leads bytes at opened is in
    let fits = event-within (drop 4 bytes) leads.first leads.stands in
    lead-within bytes (4 + event_size leads.first) at leads.later leads.lead (omega (arith, length-drop 4 bytes))

-- ---- a range that starts at a boundary

no : (b : Bool) → b && false ≡ false
no true = refl
no false = refl

-- a selection's tables, from a start to a stop
abbrev between_of : Selection → ℕ → ℕ → Selection
between_of sel start stop = record sel { start = start; stop = Some stop }

-- an event that ends there or before is in front of the range
in-front : (sel : Selection) (start stop : ℕ) (p : Placed) → p.pos + event_size p.event ≤ start → IsPassedBy (between_of sel start stop) p
in-front sel start stop p ends = (
  ap (λ b. nat_lt 4 p.pos && b) (lt-leb start p.pos (omega (arith, ends))) ∙ no (nat_lt 4 p.pos),
  ap (λ b. nat_lt start stop && (nat_lt p.pos start && b)) (le-ltb start (p.pos + event_size p.event) ends)
      ∙ ap (λ b. nat_lt start stop && b) (no (nat_lt p.pos start)) ∙ no (nat_lt start stop),
)

lead-reached : (bytes : List ℕ) (sel : Selection) (start stop : ℕ) → start ≤ stop → (at : ℕ) (es : List Event) → LeadTo bytes at start es → Lead bytes (between_of sel start stop) at start es
lead-reached bytes sel start stop order at [] is = is
lead-reached bytes sel start stop order at (e ∷ es) (here, lead) =
    let later = lead-order bytes (at + event_size e) start es lead in (
      lt-ltb at stop (omega (arith, later, order)),
      here,
      in-front sel start stop (record { pos = at; event = e }) later,
      lead-reached bytes sel start stop order (at + event_size e) es lead,
    )

pub boundary-reached : (bytes : List ℕ) (sel : Selection) (start stop : ℕ) → start ≤ stop → opening_fault bytes ≡ None → IsBoundary bytes start → IsReached bytes (between_of sel start stop) start
boundary-reached bytes sel start stop order opened is =
    let leads = boundary-leads bytes start opened is in
    record {
      first = leads.first;
      later = leads.later;
      stands = leads.stands;
      outside = (in-front sel start stop (record { pos = 4; event = leads.first }) (lead-order bytes (4 + event_size leads.first) start leads.later leads.lead)).1;
      lead = lead-reached bytes sel start stop order (4 + event_size leads.first) leads.later leads.lead;
    }

-- a stop behind a position is greater
pub stop-behind : (at stop : ℕ) → is_behind (Some stop) at ≡ true → at < stop
stop-behind at stop behind = ltb-true at stop behind
