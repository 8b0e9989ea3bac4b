use Rattle.std.proofs.Common.{◌≡◌, ap, false, ◌∙◌}
use Rattle.blog_later.specs.code.EventChanges.{events_changes}
use Rattle.blog_later.proofs.EventChanges.{changed-groups}
use Rattle.blog_pairs.specs.Steps.{pairs_with}
use Rattle.blog_pairs.specs.code.TableView.{pairs_told}
use Rattle.blog_trans.specs.Changes.{changes}
use Rattle.blog_trans.specs.code.GroupEventsView.{event_seen, events_left}
use Rattle.blog_trans.specs.code.IndexView.{index_bytes, index_selection}
use Rattle.blog_differences.proofs.Adding.{other_event}
use Rattle.blog_differences.proofs.others.add_index.Goals as goal

pub loop-event-init : goal.loop-event-init
loop-event-init g c =
    let index = c.args.index.now in
    let left : events_changes (events_left c.into_iter-event-iterator.result) ≡ changes (index_bytes index) (index_selection index) =
    ap (λ events. events_changes (events_left events)) c.into_iter-event-iterator.ensures.into_iter_gives
    ∙ ap events_changes c.in_turn-event-items.ensures ∙ changed-groups (index_bytes index) (index_selection index) in
    record { next = tt; finite = tt; pairs = ap (λ cs. pairs_with false cs (pairs_told c.args.table.now)) left }

pub loop-event-preserved : goal.loop-event-preserved
loop-event-preserved g c = record {
  next = tt;
  finite = tt;
  pairs = other_event (event_seen c.in-Some.event) (events_left c.loop-event.event-iterator) (events_left c.next.new.self) (pairs_told c.loop-event.table) _ _
      c.in-Some.ensures.steps.first c.in_ok-add_event.ensures c.loop-event.invariant.pairs;
}
