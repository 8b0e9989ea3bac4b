use Rattle.std.proofs.Common.{◌≡◌, true}
use Rattle.blog_event.specs.code.LogView.{log_bytes}
use Rattle.blog_later.specs.Later.{changes_in, later_units}
use Rattle.blog_units.specs.code.UnitsView.{units_left, units_log}
use Rattle.blog_followed.proofs.Remaining.{Remains}
use Rattle.blog_followed.proofs.followed.Followed.keep_later.Given as goal

-- the units are left that the iterator still gives
abbrev pub invariant-loop-unit : goal.invariant-loop-unit
invariant-loop-unit g l = record {
  next : (goal.iterator-loop-unit g).can_next l.unit-iterator;
  finite : (goal.iterator-loop-unit g).is_finite l.unit-iterator;
  log : units_log l.unit-iterator ≡ l.log;
  remains : Remains true l.left (changes_in (log_bytes l.log) (later_units (log_bytes l.log) l.at)) (changes_in (log_bytes l.log) (units_left l.unit-iterator)) l.fn.self l.self;
}
