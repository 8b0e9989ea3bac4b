use Rattle.std.proofs.Common.{Ok, refl, sym, ap, ◌∙◌}
use Rattle.blog_row.specs.code.LayoutView.{layout_columns}
use Rattle.blog_trans.specs.code.InTurn.{Changes}
use Rattle.blog_trans.proofs.group_events.GroupEvents.rows.Goals as goal

pub returns : goal.returns
returns g c = record {
  left = refl;
  rows = λ r of. ap (λ x. Changes x c.args.last) (sym (c.group_rows.ensures.rows r of));
  whole = record { size = c.group_rows.ensures.size; names = c.group_rows.result.1.named; layout = c.group_rows.result.1.laid_out ∙ ap (λ l. Ok (layout_columns l)) (sym c.group_rows.ensures.layout) };
}
