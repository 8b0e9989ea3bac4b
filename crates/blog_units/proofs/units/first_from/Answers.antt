use Rattle.std.proofs.Common.{◌+◌, None, sym, ap, ◌∙◌, arith}
use Rattle.std.specs.Prelude.{filter, nat_le}
use Rattle.blog_event.specs.Event.{event_of}
use Rattle.blog_event.specs.File.{Placed}
use Rattle.blog_event.specs.code.LogView.{log_bytes}
use Rattle.blog_event.proofs.Opened.{log-opened, log-reads}
use Rattle.blog_trans.specs.Places.{placed}
use Rattle.blog_units.specs.code.Boundaries.{events_behind}
use Rattle.blog_units.proofs.Behind.{all-behind, behind-event, behind-none, boundary-first, boundary-more, events-first, front-out}
use Rattle.blog_units.proofs.units.first_from.Goals as goal

pub below-init : goal.below-init
below-init c =
    let bytes = log_bytes c.args.log.now in
    let reads = log-reads c.args.log.now None c.first-pos.result c.first-pos.ensures.event in
    record {
      boundary = boundary-first bytes c.first-pos.result None (log-opened c.args.log.now) reads;
      within = c.first-pos.ensures.within;
      events = ap (filter (λ (p : Placed). nat_le c.args.at p.pos)) (sym (events-first bytes c.first-pos.result reads));
    }

pub returns-in_default-clause-events : goal.returns-in_default-clause-events
returns-in_default-clause-events c =
    let none = behind-none (log_bytes c.args.log.now) c.below.pos (sym c.in_default.ensures.event) in
    none ∙ ap (filter (λ (p : Placed). nat_le c.args.at p.pos)) (sym none) ∙ c.below.invariant.events

pub below-preserved : goal.below-preserved
below-preserved c =
    let bytes = log_bytes c.args.log.now in
    let e = c.in-Ok.event in
    let pos = c.below.pos in
    let stands = sym c.in-Ok.ensures.event in
    record {
      boundary = boundary-more bytes pos (event_of e) e.header.size (log-opened c.args.log.now) c.below.invariant.boundary stands c.in-Ok.ensures.size;
      within = c.in-Ok.ensures.within;
      events = sym (front-out bytes c.args.at pos (placed e) (events_behind bytes (pos + e.header.size)) (behind-event bytes pos e stands c.in-Ok.ensures.pos c.in-Ok.ensures.size) c.in-Ok.ensures.pos c.below-test.true)
          ∙ c.below.invariant.events;
    }

pub returns-clause-events : goal.returns-clause-events
returns-clause-events c =
    let behind = c.below-test.false in
    sym (all-behind (log_bytes c.args.log.now) c.args.at c.below.pos (omega (arith, behind))) ∙ c.below.invariant.events
