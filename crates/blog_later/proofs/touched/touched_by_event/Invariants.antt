use Rattle.std.proofs.Common.{◌≡◌, ℕ, ◌+◌}
use Rattle.std.specs.Prelude.{filter, length}
use Rattle.blog_row.specs.code.LayoutView.{layout_columns}
use Rattle.blog_row.specs.code.RowsView.{rows_left}
use Rattle.blog_row.specs.TableMap.{map_names}
use Rattle.blog_trans.specs.code.GroupEventsView.{event_seen}
use Rattle.blog_trans.specs.declared.group_events.GroupEvent.TheVariants as given
use Rattle.blog_later.specs.Prints.{takes_left}
use Rattle.blog_later.specs.code.LookedView.{left_before}
use Rattle.blog_later.specs.code.EventChanges.{event_changes, images_changes}
use Rattle.blog_later.specs.code.Counted.{at_most}
use Rattle.blog_later.proofs.touched.touched_by_event.Given as goal

-- so many were counted, and with those of the rows that are left it is all
abbrev pub invariant-loop-row : goal.invariant-loop-row
invariant-loop-row g l = record {
  next : (goal.iterator-loop-row g).can_next l.row-iterator;
  finite : (goal.iterator-loop-row g).is_finite l.row-iterator;
  counted : (n : ℕ) × (l.touched ≡ at_most n)
      × (n + length (filter (takes_left (left_before l.left l.lists)) (images_changes (map_names l.group.table).table (layout_columns l.group.rows.layout) (rows_left l.row-iterator)))
      ≡ length (filter (takes_left (left_before l.left l.lists)) (event_changes (event_seen (given.Rows l.group)))));
}
