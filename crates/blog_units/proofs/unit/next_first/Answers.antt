use Rattle.std.proofs.Common.{◌∙◌, ℕ, ◌+◌, ◌≤◌, ◌∷◌, Some, length, refl, sym, subst, ap}
use Rattle.blog_event.specs.Event.{event_of}
use Rattle.blog_event.specs.code.LogView.{log_bytes}
use Rattle.blog_event.proofs.Opened.{log-opened}
use Rattle.blog_trans.specs.Places.{placed}
use Rattle.blog_units.specs.code.Boundaries.{IsBoundary, events_behind}
use Rattle.blog_units.specs.Units.{opened_by, rest_of, units_in}
use Rattle.blog_units.proofs.Behind.{behind-event, behind-none, boundary-more, boundary-within}
use Rattle.blog_units.proofs.Going.{between-first, between-on}
use Rattle.blog_units.proofs.unit.next_first.Goals as goal

pub between-init : goal.between-init
between-init c = record {
  boundary = c.requires.boundary;
  within = boundary-within (log_bytes c.args.log.now) c.args.from (log-opened c.args.log.now) c.requires.boundary;
  units = refl;
}

pub returns-in-Some-clause-some : goal.returns-in-Some-clause-some
returns-in-Some-clause-some c =
    let bytes = log_bytes c.args.log.now in
    let e = c.in-Ok.event in
    let at = c.between.at in
    let stands = sym c.in-Ok.ensures.event in
    let pos = sym c.in-Ok.ensures.pos in
    let behind = behind-event bytes at e stands c.in-Ok.ensures.pos c.in-Ok.ensures.size in
    let opened = ap opened_by (sym c.event_kind-kind.ensures) ∙ sym c.opened_by.ensures ∙ c.in-Some.is in
    record {
      opened = opened;
      units = c.between.invariant.units
          ∙ between-first (events_behind bytes at) (events_behind bytes (at + e.header.size)) (placed e) c.in-Some.part behind opened
          ∙ ap (λ (n : ℕ). record { first = placed e; rest = rest_of (Some c.in-Some.part) (events_behind bytes (n + e.header.size)) } ∷ units_in (Some c.in-Some.part) (events_behind bytes (n + e.header.size))) pos;
      size = c.in-Ok.ensures.size;
      boundary = subst (IsBoundary bytes) pos c.between.invariant.boundary;
      behind = subst (λ (n : ℕ). IsBoundary bytes (n + e.header.size)) pos (boundary-more bytes at (event_of e) e.header.size (log-opened c.args.log.now) c.between.invariant.boundary stands c.in-Ok.ensures.size);
      within = subst (λ (n : ℕ). n + e.header.size ≤ length bytes) pos c.in-Ok.ensures.within;
    }

pub between-preserved : goal.between-preserved
between-preserved c =
    let bytes = log_bytes c.args.log.now in
    let e = c.in-Ok.event in
    let at = c.between.at in
    let stands = sym c.in-Ok.ensures.event in
    record {
      boundary = boundary-more bytes at (event_of e) e.header.size (log-opened c.args.log.now) c.between.invariant.boundary stands c.in-Ok.ensures.size;
      within = c.in-Ok.ensures.within;
      units = c.between.invariant.units
          ∙ between-on (events_behind bytes at) (events_behind bytes (at + e.header.size)) (placed e) (behind-event bytes at e stands c.in-Ok.ensures.pos c.in-Ok.ensures.size) (ap opened_by (sym c.event_kind-kind.ensures) ∙ sym c.opened_by.ensures ∙ c.in_default-opened_by.is);
    }

pub returns-clause-none : goal.returns-clause-none
returns-clause-none c none = c.between.invariant.units ∙ ap (units_in _) (behind-none (log_bytes c.args.log.now) c.between.at (sym c.in_default.ensures.event))
