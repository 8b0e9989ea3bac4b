use Rattle.std.proofs.Common.{◌≡◌}
use Rattle.blog_source.specs.code.SourceView.{log_of}
use Rattle.blog_trans.specs.Selection.{selection_of}
use Rattle.blog_units.specs.code.UnitsView.{units_left, units_log}
use Rattle.undo_run.specs.code.Steps.{chosen_by}
use Rattle.undo_run.proofs.Kept.{AreChosen}
use Rattle.undo_run.proofs.chosen.choose_among.Given as goal

-- those so far are chosen, and marked
abbrev pub invariant-loop-unit : goal.invariant-loop-unit
invariant-loop-unit g l = record {
  next : (goal.iterator-loop-unit g).can_next l.unit-iterator;
  finite : (goal.iterator-loop-unit g).is_finite l.unit-iterator;
  log : units_log l.unit-iterator ≡ l.log;
  chosen : AreChosen l.looks (chosen_by l.among (selection_of l.inside) (log_of l.source)) (selection_of l.inside) (log_of l.source) l.chosen l.marks.items (units_left l.unit-iterator);
}
