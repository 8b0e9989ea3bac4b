use Rattle.std.proofs.Common.{ap, ◌∙◌}
use Rattle.blog_trans.specs.code.GroupEventsView.{event_seen, events_left}
use Rattle.blog_trans.specs.code.IndexView.{index_bytes, index_selection}
use Rattle.blog_later.specs.Prints.{takes_left}
use Rattle.blog_later.specs.code.LookedView.{left_before}
use Rattle.blog_later.specs.code.EventChanges.{event_changes, events_changes}
use Rattle.blog_later.proofs.Counting.{counted-more, counted-none}
use Rattle.blog_later.proofs.EventChanges.{changed-groups}
use Rattle.blog_later.proofs.touched.touched_by.Goals as goal

pub loop-event-init : goal.loop-event-init
loop-event-init g c =
    let index = c.args.index.now in
    let left = ap (λ events. events_changes (events_left events)) c.into_iter-event-iterator.ensures.into_iter_gives
    ∙ ap events_changes c.in_turn-event-items.ensures ∙ changed-groups (index_bytes index) (index_selection index) in
    record { next = tt; finite = tt; counted = counted-none (takes_left (left_before c.args.left.now c.args.lists)) _ _ left }

pub loop-event-preserved : goal.loop-event-preserved
loop-event-preserved g c = record {
  next = tt;
  finite = tt;
  counted = rw c.saturating_add-touched.ensures (counted-more (takes_left (left_before c.args.left.now c.args.lists)) _ c.in_ok-more.more _ _ (event_changes (event_seen c.in-Some.event)) (events_changes (events_left c.next.new.self))
      (ap events_changes c.in-Some.ensures.steps.first) c.in_ok-more.ensures c.loop-event.invariant.counted);
}
