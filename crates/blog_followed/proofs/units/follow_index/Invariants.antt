use Rattle.blog_later.specs.code.EventChanges.{events_changes}
use Rattle.blog_trans.specs.Changes.{changes}
use Rattle.blog_trans.specs.code.GroupEventsView.{events_left}
use Rattle.blog_trans.specs.code.IndexView.{index_bytes, index_selection}
use Rattle.blog_followed.proofs.Remaining.{Remains}
use Rattle.blog_followed.proofs.units.follow_index.Given as goal

-- the events are left that the iterator still gives
abbrev pub invariant-loop-event : goal.invariant-loop-event
invariant-loop-event g l = record {
  next : (goal.iterator-loop-event g).can_next l.event-iterator;
  finite : (goal.iterator-loop-event g).is_finite l.event-iterator;
  remains : Remains l.keeps l.left (changes (index_bytes l.index) (index_selection l.index)) (events_changes (events_left l.event-iterator)) l.fn.followed l.followed;
}
