use Rattle.std.proofs.Common.{◌++◌, ap, ◌∙◌, arith}
use Rattle.std.specs.List.{flat_map}
use Rattle.blog_trans.specs.code.GroupEventsView.{event_seen, events_left}
use Rattle.blog_trans.specs.code.IndexView.{index_bytes, index_selection}
use Rattle.blog_flash.specs.code.PrintedRows.{event_lines}
use Rattle.blog_flash.proofs.PrintedInTurn.{printed-groups}
use Rattle.blog_flash.proofs.Printing.{has-room}
use Rattle.blog_flash.proofs.put_sql.put_transactions.Goals as goal

pub loop-event-init : goal.loop-event-init
loop-event-init g c =
    let index = c.args.index.now in
    let left = ap (λ events. flat_map event_lines (events_left events)) c.into_iter-event-iterator.ensures.into_iter_gives
    ∙ ap (flat_map event_lines) c.in_turn-event-items.ensures ∙ printed-groups (index_bytes index) (index_selection index) in
    record { next = tt; finite = tt; text = ap (λ text. c.args.out.now.items ++ text) left; capacity = omega arith }

pub returns-in_err-put_group_event-clause-room : goal.returns-in_err-put_group_event-clause-room
returns-in_err-put_group_event-clause-room g c enough =
    has-room _ _ _ _ (event_lines (event_seen c.in-Some.event)) (flat_map event_lines (events_left c.next.new.self)) _ _ _ _ _ _ c.in_err-put_group_event.was
    c.put_group_event.ensures.room c.loop-event.invariant.text (ap (flat_map event_lines) c.in-Some.ensures.steps.first) c.loop-event.out.ok.0 c.args.out.now.ok.0 c.loop-event.invariant.capacity enough
