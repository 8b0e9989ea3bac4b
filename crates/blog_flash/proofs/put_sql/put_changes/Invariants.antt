use Rattle.std.proofs.Common.{◌≡◌, ◌≤◌, ◌++◌}
use Rattle.std.specs.Prelude.{vec_capacity}
use Rattle.blog_row.specs.code.LayoutView.{layout_columns}
use Rattle.blog_row.specs.code.RowsView.{rows_left}
use Rattle.blog_row.specs.TableMap.{map_names}
use Rattle.blog_trans.specs.code.GroupEventsView.{event_seen}
use Rattle.blog_trans.specs.declared.group_events.GroupEvent.TheVariants as given
use Rattle.blog_flash.specs.code.PrintedRows.{event_lines, images_lines}
use Rattle.blog_flash.proofs.put_sql.put_changes.Given as goal

-- the rows that the iterator still gives are left
abbrev pub invariant-loop-row : goal.invariant-loop-row
invariant-loop-row g l = record {
  next : (goal.iterator-loop-row g).can_next l.row-iterator;
  finite : (goal.iterator-loop-row g).is_finite l.row-iterator;
  text : l.out.items ++ images_lines (map_names l.group.table).table (layout_columns l.group.rows.layout) (rows_left l.row-iterator) ≡ l.fn.out.items ++ event_lines (event_seen (given.Rows l.group));
  capacity : vec_capacity l.fn.out ≤ vec_capacity l.out;
}
