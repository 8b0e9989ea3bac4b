use Rattle.std.proofs.Common.{sym, ◌∙◌}
use Rattle.std.proofs.lemmas.Option.{slice_get-get_or}
use Rattle.blog_source.specs.code.SourceView.{end_of, log_of}
use Rattle.blog_trans.specs.Selection.{selection_of}
use Rattle.undo_run.specs.Units.{has_unit_at}
use Rattle.undo_run.proofs.Asked.{holds-more}
use Rattle.undo_run.proofs.missing.first_without_unit.Goals as goal

pub returns-then-not-has_unit_at : goal.returns-then-not-has_unit_at
returns-then-not-has_unit_at g c =
    (c.loop-n.n, c.loop-n.invariant, slice_get-get_or c.args.places.now c.loop-n.n _ c.loop-n-test.true, sym c.has_unit_at.ensures ∙ c.if-not-has_unit_at.true)

pub loop-n-preserved : goal.loop-n-preserved
loop-n-preserved g c =
    holds-more (has_unit_at (selection_of c.args.inside.now) (log_of c.args.source.now) (end_of c.args.source.now)) c.args.places.now c.loop-n.n _ c.loop-n-test.true c.loop-n.invariant (sym c.has_unit_at.ensures ∙ c.if-not-has_unit_at.false)
