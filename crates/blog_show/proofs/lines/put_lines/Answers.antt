use Rattle.std.proofs.Common.{List, ap, subst, sym, ◌∙◌}
use Rattle.blog_row.specs.RowsEvent.{RowImages}
use Rattle.blog_row.specs.code.RowsView.{rows_left}
use Rattle.blog_show.specs.Shown.{ShowsRows}
use Rattle.blog_show.proofs.lines.put_lines.Goals as goal

pub loop-row-init : goal.loop-row-init
loop-row-init g c =
    let all = ap rows_left c.into_iter-row-iterator.ensures.into_iter_gives ∙ c.rows-row-items.ensures.rows in
    record { next = tt; finite = tt; shown = λ new s. subst (λ (rs : List RowImages). ShowsRows c.args.style.now.form c.args.place rs c.args.out.now.items new) all s }

pub loop-row-preserved : goal.loop-row-preserved
loop-row-preserved g c = record {
  next = tt;
  finite = tt;
  shown = λ new s.
      c.loop-row.invariant.shown new (subst (λ (rs : List RowImages). ShowsRows c.args.style.now.form c.args.place rs c.loop-row.out.items new) (sym c.in-Some.ensures.steps)
      (_, c.in_ok-put_line.ensures, s));
}
