use Rattle.std.proofs.Common.{true}
use Rattle.blog_row.specs.code.RowsView.{row_seen, rows_left}
use Rattle.blog_pairs.specs.code.ColumnsView.{columns_told}
use Rattle.blog_pairs.specs.code.PairsView.{table_at}
use Rattle.blog_pairs.proofs.Stepping.{marked_more, marks_long}
use Rattle.blog_pairs.proofs.rows.add_selected_rows.Goals as goal

pub loop-row-preserved : goal.loop-row-preserved
loop-row-preserved g c =
    let left = c.loop-row.left.now in
    let others = c.first_mark-is_marked.result.1.now in
    let mark = c.first_mark-is_marked.result.0 in
    let row = row_seen c.in-Some.row in
    let before = rows_left c.loop-row.row-iterator in
    let rest = rows_left c.next.new.self in
    record {
      next = tt;
      finite = tt;
      each = marks_long left others mark row before rest c.first_mark-is_marked.ensures c.loop-row.invariant.each c.in-Some.ensures.steps;
      fits = λ bodies fits. c.in_ok-add_unmarked.ensures.fits bodies (c.loop-row.invariant.fits bodies fits);
      done = λ bodies fits. marked_more true (table_at bodies c.args.table.now.number) (columns_told c.args.table.now.columns) left others mark row before rest _ _ _
          c.first_mark-is_marked.ensures c.loop-row.invariant.each c.in-Some.ensures.steps (c.in_ok-add_unmarked.ensures.done bodies (c.loop-row.invariant.fits bodies fits)) (c.loop-row.invariant.done bodies fits);
    }
