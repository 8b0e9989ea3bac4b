use Rattle.std.proofs.Common.{◌∙◌, ◌+◌, Option, Some, arith, sym, subst, ap}
use Rattle.blog_event.specs.Event.{event_of}
use Rattle.blog_event.specs.code.LogView.{log_bytes}
use Rattle.blog_event.proofs.Opened.{log-opened}
use Rattle.blog_trans.specs.Places.{placed}
use Rattle.blog_units.specs.declared.part.Part.{Part}
use Rattle.blog_units.specs.declared.unit.Seen.{Seen}
use Rattle.blog_units.specs.Units.{continued, goes_on}
use Rattle.blog_units.specs.code.Boundaries.{events_behind}
use Rattle.blog_units.proofs.Behind.{behind-event, behind-none, boundary-more, boundary-within}
use Rattle.blog_units.proofs.Going.{IsGone, gone-start, gone-on, gone-over, gone-before, gone-ended}
use Rattle.blog_units.proofs.unit.go_through.Goals as goal

pub events-init : goal.events-init
events-init c = record {
  boundary = c.requires.boundary;
  behind = omega arith;
  within = boundary-within (log_bytes c.args.log.now) c.args.from (log-opened c.args.log.now) c.requires.boundary;
  gone = gone-start c.args.from (Some c.args.part) c.args.known _;
}

-- the log ends
pub returns-in_default-event_at-clause-stopped : goal.returns-in_default-event_at-clause-stopped
returns-in_default-event_at-clause-stopped c =
    let bytes = log_bytes c.args.log.now in
    let ps = events_behind bytes c.args.from in
    let qs = events_behind bytes c.events.at in
    let gone = subst (λ (o : Option Part). IsGone c.args.from c.events.at (Some c.args.part) c.args.known c.events.seen o ps qs) c.in-Some.is c.events.invariant.gone in
    gone-over c.args.from c.events.at c.args.part c.args.known c.events.seen c.in-Some.part ps qs gone (behind-none bytes c.events.at (sym c.in_default-event_at.ensures.event))

-- the unit doesn't go on with the event
pub returns-then-not-goes_on-clause-stopped : goal.returns-then-not-goes_on-clause-stopped
returns-then-not-goes_on-clause-stopped c =
    let bytes = log_bytes c.args.log.now in
    let ps = events_behind bytes c.args.from in
    let qs = events_behind bytes c.events.at in
    let e = c.in-Ok.event in
    let gone = subst (λ (o : Option Part). IsGone c.args.from c.events.at (Some c.args.part) c.args.known c.events.seen o ps qs) c.in-Some.is c.events.invariant.gone in
    gone-before c.args.from c.events.at c.args.part c.args.known c.events.seen c.in-Some.part ps qs (events_behind bytes (c.events.at + e.header.size)) (placed e) gone
    (behind-event bytes c.events.at e (sym c.in-Ok.ensures.event) c.in-Ok.ensures.pos c.in-Ok.ensures.size)
    (ap (goes_on c.in-Some.part) (sym c.event_kind-kind.ensures) ∙ sym c.goes_on.ensures ∙ c.if-not-goes_on.true)

-- it has ended with its last event
pub returns-clause-stopped : goal.returns-clause-stopped
returns-clause-stopped c =
    let bytes = log_bytes c.args.log.now in
    let ps = events_behind bytes c.args.from in
    let qs = events_behind bytes c.events.at in
    gone-ended c.args.from c.events.at c.args.part c.args.known c.events.seen ps qs
    (subst (λ (o : Option Part). IsGone c.args.from c.events.at (Some c.args.part) c.args.known c.events.seen o ps qs) c.in_default.is c.events.invariant.gone)

pub events-preserved : goal.events-preserved
events-preserved c =
    let bytes = log_bytes c.args.log.now in
    let e = c.in-Ok.event in
    let at = c.events.at in
    let stands = sym c.in-Ok.ensures.event in
    let gone = subst (λ (o : Option Part). IsGone c.args.from at (Some c.args.part) c.args.known c.events.seen o (events_behind bytes c.args.from) (events_behind bytes at)) c.in-Some.is c.events.invariant.gone in
    let on = gone-on c.args.from at (at + e.header.size) (Some c.args.part) c.args.known c.events.seen c.in-Some.part _ _ _ (placed e) gone
    (behind-event bytes at e stands c.in-Ok.ensures.pos c.in-Ok.ensures.size) (ap (goes_on c.in-Some.part) (sym c.event_kind-kind.ensures) ∙ sym c.goes_on.ensures ∙ c.if-not-goes_on.false)
    (λ i. c.in-Ok.ensures.pos i + sym c.in-Ok.ensures.size i) in
    record {
      boundary = boundary-more bytes at (event_of e) e.header.size (log-opened c.args.log.now) c.events.invariant.boundary stands c.in-Ok.ensures.size;
      behind = omega (arith, c.events.invariant.behind);
      within = c.in-Ok.ensures.within;
      gone = subst (λ (o : Option Part). IsGone c.args.from (at + e.header.size) (Some c.args.part) c.args.known c.with-seen.result o (events_behind bytes c.args.from) (events_behind bytes (at + e.header.size))) (sym c.continued-open.ensures)
          (subst (λ (s : Seen). IsGone c.args.from (at + e.header.size) (Some c.args.part) c.args.known s (continued c.in-Some.part (placed e)) (events_behind bytes c.args.from) (events_behind bytes (at + e.header.size))) (sym c.with-seen.ensures) on);
    }
