use Rattle.std.proofs.Common.{◌≡◌, take, true}
use Rattle.blog_source.specs.code.SourceView.{end_of, log_of}
use Rattle.blog_trans.specs.Selection.{selection_of}
use Rattle.undo_run.specs.Units.{have_units}
use Rattle.undo_run.proofs.missing.first_without_unit.Given as goal

-- those so far have units
abbrev pub invariant-loop-n : goal.invariant-loop-n
invariant-loop-n g l = have_units (take l.n l.places) (selection_of l.inside) (log_of l.source) (end_of l.source) ≡ true
