use Rattle.std.proofs.Common.{◌≡◌, Bool, false, [], map}
use Rattle.blog_event.specs.code.LogView.{log_bytes}
use Rattle.blog_later.specs.Later.{later_units}
use Rattle.blog_pairs.specs.code.TableView.{pairs_told}
use Rattle.blog_trans.specs.Selection.{selection_of}
use Rattle.blog_units.specs.Units.{Facts}
use Rattle.blog_units.specs.code.UnitsView.{units_left, units_log}
use Rattle.blog_differences.proofs.Adding.{after_units}
use Rattle.blog_differences.proofs.among.pairs_among.Given as goal

-- the units are left that the iterator still gives, with what is said of them, and the marks of their changes
abbrev pub invariant-loop-unit : goal.invariant-loop-unit
invariant-loop-unit g l = record {
  next : (goal.iterator-loop-unit g).can_next l.unit-iterator;
  finite : (goal.iterator-loop-unit g).is_finite l.unit-iterator;
  log : units_log l.unit-iterator ≡ l.log;
  chosen : (p : Facts → Bool) → l.chosen ≡ map p (later_units (log_bytes l.log) l.from) → l.choices ≡ map p (units_left l.unit-iterator);
  pairs : (p : Facts → Bool) → l.chosen ≡ map p (later_units (log_bytes l.log) l.from)
      → after_units p (selection_of l.inside) (log_bytes l.log) l.has_begun l.left (units_left l.unit-iterator) (pairs_told l.table)
      ≡ after_units p (selection_of l.inside) (log_bytes l.log) false l.marks (later_units (log_bytes l.log) l.from) [];
}
