use Rattle.std.proofs.Common.{◌++◌, ap, ◌∙◌}
use Rattle.blog_trans.specs.code.GroupEventsView.{event_seen, events_left}
use Rattle.blog_trans.specs.code.IndexView.{index_bytes, index_selection}
use Rattle.blog_later.specs.Prints.{print_in, prints_left, table_print}
use Rattle.blog_later.specs.code.EventChanges.{events_changes}
use Rattle.blog_later.proofs.EventChanges.{changed-groups}
use Rattle.blog_later.proofs.Counting.{put-more}
use Rattle.blog_later.proofs.leaving.put_prints.Goals as goal

pub loop-event-init : goal.loop-event-init
loop-event-init g c =
    let index = c.args.index.now in
    let left = ap (λ events. events_changes (events_left events)) c.into_iter-event-iterator.ensures.into_iter_gives
    ∙ ap events_changes c.in_turn-event-items.ensures ∙ changed-groups (index_bytes index) (index_selection index) in
    record {
      next = tt;
      finite = tt;
      rows = ap (λ cs. c.args.rows.now.items ++ prints_left (print_in c.args.list) cs) left;
      tables = ap (λ cs. c.args.tables.now.items ++ prints_left (λ r. table_print r.table) cs) left;
    }

pub loop-event-preserved : goal.loop-event-preserved
loop-event-preserved g c = record {
  next = tt;
  finite = tt;
  rows = put-more (print_in c.args.list) (event_seen c.in-Some.event) (events_left c.loop-event.event-iterator) (events_left c.next.new.self) c.loop-event.rows.items _ _ c.in-Some.ensures.steps.first c.in_ok-put_event.ensures.0 c.loop-event.invariant.rows;
  tables = put-more (λ r. table_print r.table) (event_seen c.in-Some.event) (events_left c.loop-event.event-iterator) (events_left c.next.new.self) c.loop-event.tables.items _ _ c.in-Some.ensures.steps.first c.in_ok-put_event.ensures.1 c.loop-event.invariant.tables;
}
