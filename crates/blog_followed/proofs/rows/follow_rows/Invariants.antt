use Rattle.blog_later.specs.code.EventChanges.{event_changes, images_changes}
use Rattle.blog_row.specs.code.RowsView.{rows_left}
use Rattle.blog_row.specs.code.StoredLayoutView.{stored_columns}
use Rattle.blog_trans.specs.Changes.{table_of}
use Rattle.blog_trans.specs.code.GroupEventsView.{event_seen}
use Rattle.blog_trans.specs.declared.group_events.GroupEvent.TheVariants as given
use Rattle.blog_followed.proofs.Remaining.{Remains}
use Rattle.blog_followed.proofs.rows.follow_rows.Given as goal

-- the rows are left that the iterator still gives
abbrev pub invariant-loop-row : goal.invariant-loop-row
invariant-loop-row g l = record {
  next : (goal.iterator-loop-row g).can_next l.row-iterator;
  finite : (goal.iterator-loop-row g).is_finite l.row-iterator;
  remains : Remains l.keeps l.left (event_changes (event_seen (given.Rows l.group))) (images_changes (table_of l.table.body.now) (stored_columns l.table.layout) (rows_left l.row-iterator)) l.fn.followed l.followed;
}
