use Rattle.std.proofs.Common.{sym, ◌∙◌}
use Rattle.blog_event.specs.code.LogView.{log_bytes}
use Rattle.blog_request.specs.Ids.{Ids}
use Rattle.blog_request.specs.code.IdsView.{ids_value}
use Rattle.blog_trans.specs.Selection.{selection_of}
use Rattle.undo_run.specs.Units.{has_unit_with}
use Rattle.undo_run.proofs.Asked.{holds-next, value-at}
use Rattle.undo_run.proofs.missing.first_missing.Goals as goal

pub returns-then-not-has_unit_with : goal.returns-then-not-has_unit_with
returns-then-not-has_unit_with c =
    (c.loop-n.invariant, (_, value-at ids_value c.args.wanted.now c.loop-n.n _ c.loop-n-test.true, sym c.has_unit_with.ensures ∙ c.if-not-has_unit_with.true))

pub loop-n-preserved : goal.loop-n-preserved
loop-n-preserved c =
    holds-next (λ (ids : Ids). has_unit_with ids (selection_of c.args.inside.now) (log_bytes c.args.log.now)) ids_value c.args.wanted.now c.loop-n.n _ c.loop-n-test.true c.loop-n.invariant (sym c.has_unit_with.ensures ∙ c.if-not-has_unit_with.false)
