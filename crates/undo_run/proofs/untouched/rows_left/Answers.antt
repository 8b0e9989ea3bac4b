use Rattle.std.proofs.Common.{sym, ◌∙◌}
use Rattle.std.proofs.lemmas.List.{length-map}
use Rattle.undo_run.proofs.Leaving.{numbered-left}
use Rattle.undo_run.proofs.untouched.rows_left.Goals as goal

pub returns : goal.returns
returns g c =
    let kept = c.args.kept.now in
    c.len.ensures ∙ kept.touched.ok.0 ∙ sym (length-map kept.touched.items (λ t. t.row)) ∙ numbered-left _ kept.marks.items c.requires
