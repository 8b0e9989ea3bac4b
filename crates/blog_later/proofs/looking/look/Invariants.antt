use Rattle.std.proofs.Common.{◌≡◌}
use Rattle.blog_choice.specs.code.ChosenView.{names_choice}
use Rattle.blog_event.specs.code.LogView.{log_bytes}
use Rattle.blog_units.specs.code.UnitsView.{units_left, units_log}
use Rattle.blog_later.specs.Later.{later_units, touches_in}
use Rattle.blog_later.specs.code.LookedView.{left_before}
use Rattle.blog_later.proofs.Seen.{IsLooking}
use Rattle.blog_later.proofs.looking.look.Given as goal

-- what was seen, with the units that are left, is of all
abbrev pub invariant-loop-unit : goal.invariant-loop-unit
invariant-loop-unit g l = record {
  next : (goal.iterator-loop-unit g).can_next l.unit-iterator;
  finite : (goal.iterator-loop-unit g).is_finite l.unit-iterator;
  log : units_log l.unit-iterator ≡ l.log;
  looking : IsLooking (touches_in (left_before l.left l.lists) (log_bytes l.log)) (names_choice l.names) (log_bytes l.log) (later_units (log_bytes l.log) l.at) l.looked (units_left l.unit-iterator);
}
