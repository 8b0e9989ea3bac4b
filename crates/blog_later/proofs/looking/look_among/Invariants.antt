use Rattle.std.proofs.Common.{◌≡◌, Bool, map}
use Rattle.blog_choice.specs.code.ChosenView.{names_choice}
use Rattle.blog_event.specs.code.LogView.{log_bytes}
use Rattle.blog_units.specs.Units.{Facts}
use Rattle.blog_units.specs.code.UnitsView.{units_left, units_log}
use Rattle.blog_later.specs.Later.{later_units}
use Rattle.blog_later.specs.code.LookedView.{left_before}
use Rattle.blog_later.proofs.Amid.{IsMarked}
use Rattle.blog_later.proofs.looking.look_among.Given as goal

-- what was seen, with the units that are left, is of all, and the chosen ones so far are counted; the marks are those of what is left
abbrev pub invariant-loop-unit : goal.invariant-loop-unit
invariant-loop-unit g l = record {
  next : (goal.iterator-loop-unit g).can_next l.unit-iterator;
  finite : (goal.iterator-loop-unit g).is_finite l.unit-iterator;
  log : units_log l.unit-iterator ≡ l.log;
  amid : (p : Facts → Bool) → l.chosen ≡ map p (later_units (log_bytes l.log) l.from) → IsMarked (left_before l.left) p (names_choice l.names) (log_bytes l.log) (later_units (log_bytes l.log) l.from) l.looked l.lists l.marks (units_left l.unit-iterator);
}
