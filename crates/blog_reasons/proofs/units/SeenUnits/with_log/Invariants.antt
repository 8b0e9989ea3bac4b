use Rattle.std.proofs.Common.{◌++◌, List}
use Rattle.blog_event.specs.code.LogView.{log_bytes}
use Rattle.blog_units.specs.Units.{Facts}
use Rattle.blog_units.specs.code.UnitsView.{units_left}
use Rattle.blog_reasons.specs.Reasons.{units_in_range}
use Rattle.blog_reasons.specs.code.UnitsView.{AreSeenUnits, range_of}
use Rattle.blog_reasons.proofs.SeenUnits.{IsSeeing, is_inside}
use Rattle.blog_reasons.proofs.units.SeenUnits.with_log.Given as goal

-- what was seen, with the units that are left, is of all
abbrev pub invariant-loop-unit : goal.invariant-loop-unit
invariant-loop-unit l = record {
  next : goal.iterator-loop-unit.can_next l.unit-iterator;
  finite : goal.iterator-loop-unit.is_finite l.unit-iterator;
  seeing : (us : List Facts) → AreSeenUnits l.wanted us l.fn.self
      → IsSeeing l.wanted (us ++ units_in_range (range_of (log_bytes l.log) l.range)) (is_inside l.range) l.seen (units_left l.unit-iterator);
}
