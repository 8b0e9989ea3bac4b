use Rattle.std.proofs.Common.{◌≡◌, ◌-◌, ◌≤◌, None, length}
use Rattle.blog_event.specs.code.LogView.{log_bytes}
use Rattle.blog_units.specs.code.Boundaries.{IsBoundary, events_behind}
use Rattle.blog_units.specs.Units.{units_in}
use Rattle.blog_units.proofs.unit.next_first.Given as goal

abbrev pub invariant-between : goal.invariant-between
invariant-between l = record {
  boundary : IsBoundary (log_bytes l.log) l.at;
  within : l.at ≤ length (log_bytes l.log);
  units : units_in None (events_behind (log_bytes l.log) l.from) ≡ units_in None (events_behind (log_bytes l.log) l.at);
}

abbrev pub decreases-between : goal.decreases-between
decreases-between l = length (log_bytes l.log) - l.at
