use Rattle.std.proofs.Common.{◌≤◌, length, drop}
use Rattle.blog_trans.specs.code.GroupEventsView.{events_left}
use Rattle.blog_trans.specs.code.IndexView.{index_bytes, index_selection}
use Rattle.blog_net.specs.code.RowBytes.{events_rows, log_rows}
use Rattle.blog_net.proofs.InTurn.{AreMatched}
use Rattle.blog_net.proofs.matching.has_updates.Given as goal

-- the events that the iterator still gives are left, and so are the updates from this number on
abbrev pub invariant-loop-event : goal.invariant-loop-event
invariant-loop-event g l = record {
  next : (goal.iterator-loop-event g).can_next l.event-iterator;
  finite : (goal.iterator-loop-event g).is_finite l.event-iterator;
  rows : AreMatched l.updates (log_rows (index_bytes l.index) (index_selection l.index)) (drop l.at l.updates) (events_rows (events_left l.event-iterator));
  within : l.at ≤ length l.updates;
}
