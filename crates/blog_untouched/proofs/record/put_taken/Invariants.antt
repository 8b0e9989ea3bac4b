use Rattle.std.proofs.Common.{◌≡◌, ◌++◌}
use Rattle.blog_later.specs.code.EventChanges.{events_changes}
use Rattle.blog_later.specs.code.LookedView.{left_before}
use Rattle.blog_trans.specs.Changes.{changes}
use Rattle.blog_trans.specs.code.GroupEventsView.{events_left}
use Rattle.blog_trans.specs.code.IndexView.{index_bytes, index_selection}
use Rattle.blog_untouched.specs.Steps.{taken_of}
use Rattle.blog_untouched.proofs.record.put_taken.Given as goal

-- the events are left that the iterator still gives
abbrev pub invariant-loop-event : goal.invariant-loop-event
invariant-loop-event g l = record {
  next : (goal.iterator-loop-event g).can_next l.event-iterator;
  finite : (goal.iterator-loop-event g).is_finite l.event-iterator;
  put : l.taken.items ++ taken_of l.before (left_before l.left l.lists).rows (events_changes (events_left l.event-iterator)) ≡ l.fn.taken.items ++ taken_of l.before (left_before l.left l.lists).rows (changes (index_bytes l.index) (index_selection l.index));
}
