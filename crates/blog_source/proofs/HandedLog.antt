-- The log that is handed out: its events, its length, and that it is a log.
use Rattle.std.proofs.Common.{◌≡◌, ℕ, ◌+◌, ◌-◌, ◌^◌, ◌≤◌, ◌<◌, Bool, true, false, List, [], ◌∷◌, ◌++◌, length, drop, Option, Some, None, refl, sym, subst, ap, ◌∙◌, arith}
use Rattle.std.specs.Prelude.{◌&&◌, map}
use Rattle.std.proofs.lemmas.Bool.{and_parts}
use Rattle.std.specs.List.{flat_map, AllByRecursion}
use Rattle.std.proofs.lemmas.Bool.Decides.{nat_tests}
use Rattle.std.proofs.lemmas.List.{length-take-le}
use borrow.Author.Tests.{eqb-true}
use Rattle.blog_event.specs.Event.{Event, event_size, event_at, IsEvent}
use Rattle.blog_event.specs.File.{AreBytes, Placed, file_text, placed_from, end_of, read}
use Rattle.blog_event.specs.Format.{algorithm, description_fault}
use Rattle.blog_event.specs.Opening.{opening_fault}
use Rattle.blog_sum.specs.declared.fault.SumFault.{SumFault}
use Rattle.blog_sum.specs.Sums.{algorithm_of, has_sums}
use Rattle.blog_sum.proofs.Formats.{described-long, plain-described, plain-none}
use Rattle.blog_sum.proofs.Summed.{format-accepted, format-event, summed-algorithm}
use Rattle.blog_sum.proofs.Texts.{format-size}
use Rattle.blog_source.specs.declared.reading.Reading.{Reading}
use Rattle.blog_source.specs.Found.{as_damaged, begins_right, check_of, found, found_with, is_wrong_sum, source_refusal}
use Rattle.blog_source.specs.declared.becoming.Becoming.{Becoming}
use Rattle.blog_source.specs.declared.becoming.Becoming.TheVariants.{Itself, Gtid, Begin, Nothing}
use Rattle.blog_source.specs.Becoming.{become_as, becomes_with, becoming_of}
use Rattle.blog_source.specs.Handed.{bare, becomes, handed, handed_events, handed_format, handed_log}
use Rattle.blog_source.specs.Maria.{begin_body}
use Rattle.blog_source.proofs.WhatBecomes.{begin-room, gtid-room}
use Rattle.blog_gtid.specs.Tagged.{gtid_body_of}
use Rattle.blog_source.proofs.Accepted.{IsAccepted, is-accepted, is-read, later_of}
use Rattle.blog_gtid.proofs.Lengths.{gtid_fits}
use Rattle.blog_source.proofs.LogText.{IsText, text-long, text-opens, text-read, text-stands}
use Rattle.blog_source.proofs.Moving.{has-room, wrong-has-room}

-- ---- the events behind the format description

-- they end behind where they begin
pub end-past : (pos : ℕ) (es : List Event) → pos ≤ end_of pos es
end-past pos [] = omega arith
end-past pos (e ∷ es) = let later = end-past (pos + event_size e) es in omega arith

-- an event without its sum, where it has one, with another place
pub bare-event : (sums : Bool) (pos : ℕ) (e : Event) → pos < 2 ^ 32 → IsEvent e → (sums ≡ true → 23 ≤ event_size e)
    → IsEvent (record (bare sums e) { log_pos = pos }) × (event_size (bare sums e) ≤ event_size e)
bare-event false pos e short event room = (
  record { timestamp = event.timestamp; kind = event.kind; server_id = event.server_id; size = event.size; log_pos = short; flags = event.flags },
  omega arith,
)
bare-event true pos e short event room =
    let enough = room refl in
    let body = length-take-le (length e.body - 4) e.body (omega arith) in
    let size = event.size in (
      record { timestamp = event.timestamp; kind = event.kind; server_id = event.server_id; size = omega arith; log_pos = short; flags = event.flags },
      omega arith,
    )

-- the events that it becomes, apart from where they are put: together no longer than it
pub record AreFit (size : ℕ) (es : List Event) : Type 0 where
  pub events : AllByRecursion (λ f. IsEvent (record f { log_pos = 0 })) es
  pub fits : (pos : ℕ) → end_of pos es ≤ pos + size

pub become-fit : (cut : List ℕ → List ℕ) (sums : Bool) (e : Event) → ((body : List ℕ) → 25 ≤ length body → length (cut (gtid_body_of body)) ≤ length body)
    → IsEvent e → (sums ≡ true → 23 ≤ event_size e) → AreFit (event_size e) (becomes_with cut (bare sums e))
become-fit cut sums e shorter event room = by_case (becoming_of (bare sums e).kind (bare sums e).body) refl
  where
    b : Event
    b = bare sums e

    by_case : (r : Becoming) → becoming_of b.kind b.body ≡ r → AreFit (event_size e) (become_as cut r b)
    by_case Itself is =
        let own = bare-event sums 0 e (omega arith) event room in
        let less = own.1 in
        record { events = (own.0, tt); fits = λ pos. omega arith }
    by_case Gtid is =
        let own = bare-event sums 0 e (omega arith) event room in
        let cut_short = shorter b.body (gtid-room b.kind b.body is) in
        let size = own.0.size in
        let less = own.1 in
        record {
          events = (record { timestamp = own.0.timestamp; kind = omega arith; server_id = own.0.server_id; size = omega arith; log_pos = omega arith; flags = own.0.flags }, tt);
          fits = λ pos. omega arith;
        }
    by_case Begin is =
        let own = bare-event sums 0 e (omega arith) event room in
        let enough = begin-room b.kind b.body is in
        let long : length begin_body ≡ 19 = refl in
        let size = own.0.size in
        let less = own.1 in
        record {
          events = (record { timestamp = own.0.timestamp; kind = omega arith; server_id = own.0.server_id; size = omega arith; log_pos = omega arith; flags = omega arith }, tt);
          fits = λ pos. omega arith;
        }
    by_case Nothing is = record { events = tt; fits = λ pos. omega arith }

-- events at one place
abbrev pub at_place : ℕ → List Event → List Event
at_place place es = map {A = Event} (λ e. record e { log_pos = place }) es

placed-ends : (place pos : ℕ) (es : List Event) → end_of pos (at_place place es) ≡ end_of pos es
placed-ends place pos [] = refl
placed-ends place pos (e ∷ es) = placed-ends place (pos + event_size e) es

placed-events : (place : ℕ) (es : List Event) → place < 2 ^ 32 → AllByRecursion (λ f. IsEvent (record f { log_pos = 0 })) es → AllByRecursion IsEvent (at_place place es)
placed-events place [] short events = tt
placed-events place (e ∷ es) short events =
    let own = events.0 in (
      record { timestamp = own.timestamp; kind = own.kind; server_id = own.server_id; size = own.size; log_pos = short; flags = own.flags },
      placed-events place es short events.1,
    )

-- a damaged event
damaged-event : (e : Event) → IsEvent e → IsEvent (record e { kind = 255; flags = e.kind })
damaged-event e event = record {
  timestamp = event.timestamp;
  kind = omega arith;
  server_id = event.server_id;
  size = event.size;
  log_pos = event.log_pos;
  flags = let kind = event.kind in omega arith;
}

-- events are handed out from a position on, and end no later than another
abbrev pub Fit : ℕ → ℕ → List Event → Type 0
Fit pos end es = AllByRecursion IsEvent es × (end_of pos es ≤ end)

-- so do events in front of others
pub fit-append : (pos end : ℕ) (es later : List Event) → AllByRecursion IsEvent es → Fit (end_of pos es) end later → Fit pos end (es ++ later)
fit-append pos end [] later events fit = fit
fit-append pos end (e ∷ es) later events fit = let rest = fit-append (pos + event_size e) end es later events.1 fit in ((events.0, rest.0), rest.1)

-- what is handed out for events fits where they are, and before it
handed-fit : (how : Reading) (sums : Bool) (len pos at : ℕ) (es : List Event) → pos ≤ at → AllByRecursion IsEvent es → end_of at es < 2 ^ 32
    → Fit pos (end_of at es) (flat_map (handed sums) (found how sums len at (placed_from at es)).kept)
handed-fit how sums len pos at [] before events short = (tt, before)
handed-fit how sums len pos at (e ∷ es) before events short =
    by_check (check_of sums p) passed refl refl (λ (next : ℕ) (fits : next ≤ at + event_size e). handed-fit how sums len next (at + event_size e) es fits events.1 short)
  where
    p : Placed
    p = record { pos = at; event = e }

    passed : Bool
    passed = how.skip_damaged && (is_wrong_sum (check_of sums p) && begins_right (placed_from (at + event_size e) es))

    handed-one : (d : Event) → IsEvent d → event_size d ≡ event_size e → (sums ≡ true → 23 ≤ event_size d)
        → ((next : ℕ) → next ≤ at + event_size e
        → Fit next (end_of (at + event_size e) es) (flat_map (handed sums) (found how sums len (at + event_size e) (placed_from (at + event_size e) es)).kept))
        → Fit pos (end_of (at + event_size e) es)
        (handed sums (record { pos = at; event = d }) ++ flat_map (handed sums) (found how sums len (at + event_size e) (placed_from (at + event_size e) es)).kept)
    handed-one d event same room later =
        let past = end-past (at + event_size e) es in
        let own = become-fit (λ body. body) sums d gtid_fits event room in
        let fits = own.fits pos in
        let ends = placed-ends at pos (becomes (bare sums d)) in
        fit-append pos (end_of (at + event_size e) es) (handed sums (record { pos = at; event = d }))
        (flat_map (handed sums) (found how sums len (at + event_size e) (placed_from (at + event_size e) es)).kept)
        (placed-events at (becomes (bare sums d)) (omega arith) own.events) (later (end_of pos (handed sums (record { pos = at; event = d }))) (omega arith))

    by_check : (check : Option SumFault) (b : Bool) → check_of sums p ≡ check → passed ≡ b
        → ((next : ℕ) → next ≤ at + event_size e
        → Fit next (end_of (at + event_size e) es) (flat_map (handed sums) (found how sums len (at + event_size e) (placed_from (at + event_size e) es)).kept))
        → Fit pos (end_of (at + event_size e) es)
        (flat_map (handed sums) (found_with check b p (found how sums len (at + event_size e) (placed_from (at + event_size e) es))).kept)
    by_check None b fine tested later = handed-one e events.0 refl (has-room sums p fine) later
    by_check (Some fault) true fails tested later =
        let both = and_parts how.skip_damaged (is_wrong_sum (check_of sums p) && begins_right (placed_from (at + event_size e) es)) tested in
        let wrong : is_wrong_sum (Some fault) ≡ true =
        ap is_wrong_sum (sym fails) ∙ (and_parts (is_wrong_sum (check_of sums p)) (begins_right (placed_from (at + event_size e) es)) both.1).0 in
        handed-one (as_damaged p).event (damaged-event e events.0) refl (wrong-has-room sums p fault fails wrong) later
    by_check (Some fault) false fails tested later = let past = end-past (at + event_size e) es in (tt, omega arith)

-- ---- the format description

-- what is known of it, once it says that there are no sums
pub record HasFormat (sums : Bool) (format : Event) : Type 0 where
  pub event : IsEvent (handed_format sums format)
  pub size : event_size (handed_format sums format) ≡ event_size format
  pub described : description_fault (handed_format sums format) ≡ None
  pub none : algorithm (handed_format sums format).body ≡ 0

pub has-format : (bytes : List ℕ) (log : IsAccepted bytes) (sums : Bool) → has_sums bytes ≡ sums → IsEvent log.format → HasFormat sums log.format
has-format bytes log true is event =
    let long = described-long log.format log.accepted in
    let one : algorithm log.format.body ≡ 1 = sym (summed-algorithm bytes log.format log.stands) ∙ eqb-true (algorithm_of bytes) 1 is in
    record {
      event = format-event log.format (omega arith) event;
      size = format-size _ log.format (omega arith);
      described = plain-described log.format log.accepted one;
      none = plain-none log.format (omega arith);
    }
has-format bytes log false is event =
    let known = log.known in
    let none : algorithm_of bytes ≡ 0 = grind (arith, nat_tests) in
    record { event = event; size = refl; described = log.accepted; none = sym (summed-algorithm bytes log.format log.stands) ∙ none }

-- ---- the whole log

-- what is known of it
pub record IsHanded (how : Reading) (bytes : List ℕ) : Type 0 where
  pub log : IsAccepted bytes
  pub format : HasFormat (has_sums bytes) log.format
  pub later : List Event
  pub later_is : later ≡ flat_map (handed (has_sums bytes)) (found how (has_sums bytes) (length bytes) (4 + event_size log.format) (placed_from (4 + event_size log.format) (later_of bytes how.stop log))).kept
  pub are : handed_events how (has_sums bytes) (length bytes) (read bytes how.stop) ≡ handed_format (has_sums bytes) log.format ∷ later
  pub events : AllByRecursion IsEvent (handed_format (has_sums bytes) log.format ∷ later)
  pub ends : end_of 4 (handed_format (has_sums bytes) log.format ∷ later) ≤ length bytes

pub is-handed : (how : Reading) (bytes : List ℕ) → AreBytes bytes → source_refusal bytes ≡ None → IsHanded how bytes
is-handed how bytes are fine =
    let log = is-accepted bytes fine in
    let reads = is-read bytes how.stop log are in
    let short = log.short in
    let within = reads.ends in
    let at : ℕ = 4 + event_size log.format in
    let es : List Event = later_of bytes how.stop log in
    let format = has-format bytes log (has_sums bytes) refl reads.events.0 in
    let fit = handed-fit how (has_sums bytes) (length bytes) at at es (omega arith) reads.events.1 (omega arith) in
    let last : List Event = flat_map (handed (has_sums bytes)) (found how (has_sums bytes) (length bytes) at (placed_from at es)).kept in
    let ends : end_of at last ≤ length bytes = omega (arith, fit.1) in
    record {
      log = log;
      format = format;
      later = last;
      later_is = refl;
      are = ap (handed_events how (has_sums bytes) (length bytes)) reads.is;
      events = (format.event, fit.0);
      ends = subst (λ (size : ℕ). end_of (4 + size) last ≤ length bytes) (sym format.size) ends;
    }

-- its bytes
pub handed-text : (how : Reading) (bytes : List ℕ) (is : IsHanded how bytes) → IsText (handed_log how bytes) (handed_format (has_sums bytes) is.log.format) is.later
unfolding handed_log
handed-text how bytes is = record { is = ap file_text is.are; events = is.events }

-- its first event
pub handed-stands : (how : Reading) (bytes : List ℕ) (is : IsHanded how bytes) → event_at (drop 4 (handed_log how bytes)) ≡ Some (handed_format (has_sums bytes) is.log.format)
handed-stands how bytes is = text-stands (handed_log how bytes) (handed_format (has_sums bytes) is.log.format) is.later (handed-text how bytes is)

-- ---- the laws

pub handed_no_longer : (how : Reading) (bytes : List ℕ) → AreBytes bytes → source_refusal bytes ≡ None → length (handed_log how bytes) ≤ length bytes
handed_no_longer how bytes are fine =
    let is = is-handed how bytes are fine in
    let ends = is.ends in
    omega (arith, text-long (handed_log how bytes) (handed_format (has_sums bytes) is.log.format) is.later (handed-text how bytes is))

pub handed_opens : (how : Reading) (bytes : List ℕ) → AreBytes bytes → source_refusal bytes ≡ None → opening_fault (handed_log how bytes) ≡ None
handed_opens how bytes are fine =
    let is = is-handed how bytes are fine in
    let short = is.log.short in
    text-opens (handed_log how bytes) (handed_format (has_sums bytes) is.log.format) is.later (handed-text how bytes is) (omega (arith, handed_no_longer how bytes are fine))
    (format-accepted (handed_format (has_sums bytes) is.log.format) is.format.described is.format.none)

pub handed_read_again : (how : Reading) (bytes : List ℕ) → AreBytes bytes → source_refusal bytes ≡ None
    → read (handed_log how bytes) None ≡ handed_events how (has_sums bytes) (length bytes) (read bytes how.stop)
handed_read_again how bytes are fine =
    let is = is-handed how bytes are fine in
    text-read (handed_log how bytes) (handed_format (has_sums bytes) is.log.format) is.later (handed-text how bytes is) ∙ sym is.are
