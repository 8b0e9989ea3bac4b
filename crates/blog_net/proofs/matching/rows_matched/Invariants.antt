use Rattle.std.proofs.Common.{◌≤◌, length, drop, map}
use Rattle.blog_row.specs.code.RowsView.{rows_left}
use Rattle.blog_trans.specs.code.GroupEventsView.{event_seen}
use Rattle.blog_trans.specs.declared.group_events.GroupEvent.TheVariants as given
use Rattle.blog_net.specs.code.RowBytes.{event_rows, row_bytes}
use Rattle.blog_net.proofs.InTurn.{AreMatched}
use Rattle.blog_net.proofs.matching.rows_matched.Given as goal

-- the rows that the iterator still gives are left, and so are the updates from this number on
abbrev pub invariant-loop-row : goal.invariant-loop-row
invariant-loop-row l = record {
  next : goal.iterator-loop-row.can_next l.row-iterator;
  finite : goal.iterator-loop-row.is_finite l.row-iterator;
  rows : AreMatched l.updates (event_rows (event_seen (given.Rows l.group))) (drop l.many l.updates) (map (row_bytes l.group.map.body.now) (rows_left l.row-iterator));
  within : l.many ≤ length l.updates;
}
