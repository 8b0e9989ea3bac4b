use Rattle.std.proofs.Common.{sym, ap, subst, ◌∙◌}
use Rattle.blog_flash.specs.code.Skipping.{IsSkipped}
use Rattle.blog_split.specs.code.CutWritten.{ending}
use Rattle.blog_split.proofs.Turned.{rows_event-size}
use Rattle.blog_split.proofs.cut_events.set_skipped_last.Goals as goal

pub returns-in-Rows : goal.returns-in-Rows
returns-in-Rows c w skipped =
    let (r, is, known) = subst (λ e. IsSkipped e w) c.in-Rows.is skipped in
    (r, ap (ending c.args.last) is, record { id = known.id; len = rows_event-size c.args.last r ∙ sym (rows_event-size c.in-Rows.rows.last r) ∙ known.len })
