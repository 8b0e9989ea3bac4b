use Rattle.std.proofs.Common.{◌-◌, ◌≤◌, Some, length}
use Rattle.blog_event.specs.code.LogView.{log_bytes}
use Rattle.blog_units.specs.code.Boundaries.{IsBoundary, events_behind}
use Rattle.blog_units.proofs.Going.{IsGone}
use Rattle.blog_units.proofs.unit.go_through.Given as goal

abbrev pub invariant-events : goal.invariant-events
invariant-events l = record {
  boundary : IsBoundary (log_bytes l.log) l.at;
  behind : l.from ≤ l.at;
  within : l.at ≤ length (log_bytes l.log);
  gone : IsGone l.from l.at (Some l.fn.part) l.fn.known l.seen l.open (events_behind (log_bytes l.log) l.from) (events_behind (log_bytes l.log) l.at);
}

abbrev pub decreases-events : goal.decreases-events
decreases-events l = length (log_bytes l.log) - l.at
