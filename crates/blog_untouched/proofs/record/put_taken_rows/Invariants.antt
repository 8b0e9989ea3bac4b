use Rattle.std.proofs.Common.{◌≡◌, ◌++◌}
use Rattle.blog_later.specs.code.EventChanges.{event_changes, images_changes}
use Rattle.blog_later.specs.code.LookedView.{left_before}
use Rattle.blog_row.specs.TableMap.{map_names}
use Rattle.blog_row.specs.code.LayoutView.{layout_columns}
use Rattle.blog_row.specs.code.RowsView.{rows_left}
use Rattle.blog_trans.specs.code.GroupEventsView.{event_seen}
use Rattle.blog_trans.specs.declared.group_events.GroupEvent.TheVariants as given
use Rattle.blog_untouched.specs.Steps.{taken_of}
use Rattle.blog_untouched.proofs.record.put_taken_rows.Given as goal

-- the rows are left that the iterator still gives
abbrev pub invariant-loop-row : goal.invariant-loop-row
invariant-loop-row g l = record {
  next : (goal.iterator-loop-row g).can_next l.row-iterator;
  finite : (goal.iterator-loop-row g).is_finite l.row-iterator;
  put : l.taken.items ++ taken_of l.before (left_before l.left l.lists).rows (images_changes (map_names l.group.table).table (layout_columns l.group.rows.layout) (rows_left l.row-iterator))
      ≡ l.fn.taken.items ++ taken_of l.before (left_before l.left l.lists).rows (event_changes (event_seen (given.Rows l.group)));
}
