use Rattle.std.proofs.Common.{ap, ◌∙◌}
use Rattle.blog_later.specs.code.EventChanges.{event_changes, events_changes}
use Rattle.blog_later.proofs.EventChanges.{changed-groups}
use Rattle.blog_trans.specs.code.GroupEventsView.{event_seen, events_left}
use Rattle.blog_trans.specs.code.IndexView.{index_bytes, index_selection}
use Rattle.blog_followed.proofs.Remaining.{remains-on, remains-start}
use Rattle.blog_followed.proofs.units.follow_index.Goals as goal

pub loop-event-init : goal.loop-event-init
loop-event-init g c =
    let index = c.args.index.now in
    let events = ap (λ events. events_changes (events_left events)) c.into_iter-event-iterator.ensures.into_iter_gives
    ∙ ap events_changes c.in_turn-event-items.ensures ∙ changed-groups (index_bytes index) (index_selection index) in
    record { next = tt; finite = tt; remains = remains-start c.args.keeps c.args.left.now _ _ c.args.followed.now events }

pub loop-event-preserved : goal.loop-event-preserved
loop-event-preserved g c = record {
  next = tt;
  finite = tt;
  remains = remains-on c.args.keeps c.args.left.now _ (events_changes (events_left c.loop-event.event-iterator)) (event_changes (event_seen c.in-Some.event)) (events_changes (events_left c.next.new.self))
      c.args.followed.now c.loop-event.followed _ (ap events_changes c.in-Some.ensures.steps.first) c.in_ok-follow_event.ensures c.loop-event.invariant.remains;
}
