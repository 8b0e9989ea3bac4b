use Rattle.std.proofs.Common.{◌≡◌, ◌-◌, ◌≤◌, length}
use Rattle.std.specs.Prelude.{filter, nat_le}
use Rattle.blog_event.specs.code.LogView.{log_bytes}
use Rattle.blog_units.specs.Units.{events_from}
use Rattle.blog_units.specs.code.Boundaries.{IsBoundary, events_behind}
use Rattle.blog_units.proofs.units.first_from.Given as goal

-- the events from here on have all that are wanted
abbrev pub invariant-below : goal.invariant-below
invariant-below l = record {
  boundary : IsBoundary (log_bytes l.log) l.pos;
  within : l.pos ≤ length (log_bytes l.log);
  events : filter (λ p. nat_le l.at p.pos) (events_behind (log_bytes l.log) l.pos) ≡ events_from (log_bytes l.log) l.at;
}

abbrev pub decreases-below : goal.decreases-below
decreases-below l = length (log_bytes l.log) - l.pos
