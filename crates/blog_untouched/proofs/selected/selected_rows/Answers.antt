use Rattle.std.proofs.Common.{◌++◌, List, map, ap, ◌∙◌}
use Rattle.blog_trans.specs.code.GroupEventsView.{event_seen, events_left}
use Rattle.blog_trans.specs.code.IndexView.{index_bytes, index_selection}
use Rattle.blog_later.specs.Prints.{print_of}
use Rattle.blog_later.specs.code.EventChanges.{events_changes}
use Rattle.blog_later.proofs.EventChanges.{changed-groups}
use Rattle.blog_untouched.specs.Recorded.{row_by}
use Rattle.blog_untouched.specs.declared.rows.SelectedRow.{SelectedRow}
use Rattle.blog_untouched.proofs.Putting.{put-event}
use Rattle.blog_untouched.proofs.selected.selected_rows.Goals as goal

pub loop-event-init : goal.loop-event-init
loop-event-init g c =
    let index = c.args.index.now in
    let left = ap (λ events. events_changes (events_left events)) c.into_iter-event-iterator.ensures.into_iter_gives
    ∙ ap events_changes c.in_turn-event-items.ensures ∙ changed-groups (index_bytes index) (index_selection index) in
    record {
      next = tt;
      finite = tt;
      rows = ap (λ (rs : List SelectedRow). rs ++ map (row_by print_of) (events_changes (events_left c.into_iter-event-iterator.result))) c.new-rows.ensures.items ∙ ap (map (row_by print_of)) left;
    }

pub loop-event-preserved : goal.loop-event-preserved
loop-event-preserved g c = record {
  next = tt;
  finite = tt;
  rows = put-event (row_by print_of) (event_seen c.in-Some.event) (events_left c.loop-event.event-iterator) (events_left c.next.new.self) c.loop-event.rows.items _ _ c.in-Some.ensures.steps.first c.in_ok-put_event.ensures c.loop-event.invariant.rows;
}
