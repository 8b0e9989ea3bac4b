use Rattle.blog_row.specs.code.RowsEventView.{rows_content}
use Rattle.blog_row.specs.code.RowsView.{rows_left}
use Rattle.blog_left_out.specs.LeftOut.{content_rows}
use Rattle.blog_left_out.proofs.RowsLeft.{AreLeft}
use Rattle.blog_left_out.proofs.kept_rows.put_rows.Given as goal

-- the rows that the iterator still gives are left
abbrev pub invariant-loop-row : goal.invariant-loop-row
invariant-loop-row g l = record {
  next : (goal.iterator-loop-row g).can_next l.row-iterator;
  finite : (goal.iterator-loop-row g).is_finite l.row-iterator;
  rows : AreLeft l.marks (content_rows (rows_content l.rows)) l.fn.body.items l.body.items l.used l.some l.stays (rows_left l.row-iterator);
}
