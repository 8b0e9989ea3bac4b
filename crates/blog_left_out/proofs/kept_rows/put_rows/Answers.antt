use Rattle.std.proofs.Common.{ap, ◌∙◌, arith}
use Rattle.blog_row.specs.code.RowsEventView.{rows_content}
use Rattle.blog_row.specs.code.RowsView.{row_seen, rows_left}
use Rattle.blog_left_out.specs.LeftOut.{content_rows}
use Rattle.blog_left_out.proofs.RowsLeft.{rows-begin, rows-more, rows-none}
use Rattle.blog_left_out.proofs.kept_rows.put_rows.Goals as goal

pub loop-row-init : goal.loop-row-init
loop-row-init g c = record {
  next = tt;
  finite = tt;
  rows = rows-begin c.args.marks.now (content_rows (rows_content c.args.rows.now)) _ c.args.body.now.items (ap rows_left c.into_iter-row-iterator.ensures.into_iter_gives ∙ c.rows-row-items.ensures.rows);
}

pub loop-row-preserved : goal.loop-row-preserved
loop-row-preserved g c = record {
  next = tt;
  finite = tt;
  rows = rows-more c.args.marks.now (content_rows (rows_content c.args.rows.now)) c.args.body.now.items c.loop-row.body.items c.put_row.new.body.items c.loop-row.used c.min-used.result c.loop-row.some c.loop-row.stays
      c.mark_at-mark.result c.either-stays.result (row_seen c.in-Some.row) (rows_left c.loop-row.row-iterator) (rows_left c.next.new.self) c.in-Some.ensures.steps c.mark_at-mark.ensures c.in_ok-put_row.ensures
      (omega (arith, c.min-used.ensures)) c.either-stays.ensures c.loop-row.invariant.rows;
}

pub returns-clause-images : goal.returns-clause-images
returns-clause-images g c =
    let done = rows-none _ _ _ _ _ _ _ _ c.in-None.ensures.steps.0 c.loop-row.invariant.rows in done.images

pub returns-clause-kept : goal.returns-clause-kept
returns-clause-kept g c =
    let done = rows-none _ _ _ _ _ _ _ _ c.in-None.ensures.steps.0 c.loop-row.invariant.rows in
    record { stays_is = c.either.ensures ∙ done.stays_is; left = done.left; within = done.within }
