use Rattle.std.proofs.Common.{◌≡◌, ℕ, ◌+◌}
use Rattle.std.specs.Prelude.{filter, length}
use Rattle.blog_trans.specs.Changes.{changes}
use Rattle.blog_trans.specs.code.GroupEventsView.{events_left}
use Rattle.blog_trans.specs.code.IndexView.{index_bytes, index_selection}
use Rattle.blog_later.specs.Prints.{takes_left}
use Rattle.blog_later.specs.code.LookedView.{left_before}
use Rattle.blog_later.specs.code.EventChanges.{events_changes}
use Rattle.blog_later.specs.code.Counted.{at_most}
use Rattle.blog_later.proofs.touched.touched_by.Given as goal

-- so many were counted, and with those of the events that are left it is all
abbrev pub invariant-loop-event : goal.invariant-loop-event
invariant-loop-event g l = record {
  next : (goal.iterator-loop-event g).can_next l.event-iterator;
  finite : (goal.iterator-loop-event g).is_finite l.event-iterator;
  counted : (n : ℕ) × (l.touched ≡ at_most n)
      × (n + length (filter (takes_left (left_before l.left l.lists)) (events_changes (events_left l.event-iterator)))
      ≡ length (filter (takes_left (left_before l.left l.lists)) (changes (index_bytes l.index) (index_selection l.index))));
}
