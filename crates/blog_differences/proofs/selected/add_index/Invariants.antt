use Rattle.std.proofs.Common.{◌≡◌, drop, length, true}
use Rattle.blog_later.specs.code.EventChanges.{events_changes}
use Rattle.blog_pairs.specs.Steps.{pairs_with, unmarked}
use Rattle.blog_pairs.specs.code.TableView.{pairs_told}
use Rattle.blog_trans.specs.Changes.{changes}
use Rattle.blog_trans.specs.code.GroupEventsView.{events_left}
use Rattle.blog_trans.specs.code.IndexView.{index_bytes, index_selection}
use Rattle.blog_differences.proofs.selected.add_index.Given as goal

-- the events are left that the iterator still gives, with the marks of their rows
abbrev pub invariant-loop-event : goal.invariant-loop-event
invariant-loop-event g l = record {
  next : (goal.iterator-loop-event g).can_next l.event-iterator;
  finite : (goal.iterator-loop-event g).is_finite l.event-iterator;
  pairs : pairs_with true (unmarked l.left (events_changes (events_left l.event-iterator))) (pairs_told l.table)
      ≡ pairs_with true (unmarked l.marks (changes (index_bytes l.index) (index_selection l.index))) (pairs_told l.fn.table);
  others : drop (length (events_changes (events_left l.event-iterator))) l.left ≡ drop (length (changes (index_bytes l.index) (index_selection l.index))) l.marks;
}
