use Rattle.std.proofs.Common.{◌≡◌, false}
use Rattle.blog_later.specs.code.EventChanges.{events_changes}
use Rattle.blog_pairs.specs.Steps.{pairs_with}
use Rattle.blog_pairs.specs.code.TableView.{pairs_told}
use Rattle.blog_trans.specs.Changes.{changes}
use Rattle.blog_trans.specs.code.GroupEventsView.{events_left}
use Rattle.blog_trans.specs.code.IndexView.{index_bytes, index_selection}
use Rattle.blog_differences.proofs.others.add_index.Given as goal

-- the events are left that the iterator still gives
abbrev pub invariant-loop-event : goal.invariant-loop-event
invariant-loop-event g l = record {
  next : (goal.iterator-loop-event g).can_next l.event-iterator;
  finite : (goal.iterator-loop-event g).is_finite l.event-iterator;
  pairs : pairs_with false (events_changes (events_left l.event-iterator)) (pairs_told l.table) ≡ pairs_with false (changes (index_bytes l.index) (index_selection l.index)) (pairs_told l.fn.table);
}
