use Rattle.std.proofs.Common.{◌++◌, ap, ◌∙◌}
use Rattle.blog_later.specs.code.EventChanges.{events_changes}
use Rattle.blog_later.specs.code.LookedView.{left_before}
use Rattle.blog_later.proofs.EventChanges.{changed-groups}
use Rattle.blog_trans.specs.code.GroupEventsView.{event_seen, events_left}
use Rattle.blog_trans.specs.code.IndexView.{index_bytes, index_selection}
use Rattle.blog_untouched.specs.Steps.{taken_of}
use Rattle.blog_untouched.proofs.PutRecorded.{event-more}
use Rattle.blog_untouched.proofs.record.put_taken.Goals as goal

pub loop-event-init : goal.loop-event-init
loop-event-init g c =
    let index = c.args.index.now in
    let left = ap (λ events. events_changes (events_left events)) c.into_iter-event-iterator.ensures.into_iter_gives
    ∙ ap events_changes c.in_turn-event-items.ensures ∙ changed-groups (index_bytes index) (index_selection index) in
    record { next = tt; finite = tt; put = ap (λ cs. c.args.taken.now.items ++ taken_of c.args.before (left_before c.args.left.now c.args.lists).rows cs) left }

pub loop-event-preserved : goal.loop-event-preserved
loop-event-preserved g c = record {
  next = tt;
  finite = tt;
  put = event-more c.args.before (left_before c.args.left.now c.args.lists).rows (event_seen c.in-Some.event) (events_left c.loop-event.event-iterator) (events_left c.next.new.self) c.loop-event.taken.items _ _
      c.in-Some.ensures.steps.first c.in_ok-put_taken_event.ensures c.loop-event.invariant.put;
}
