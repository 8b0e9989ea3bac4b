use Rattle.std.proofs.Common.{ap, length, None, length-drop, arith}
use Rattle.std.proofs.lemmas.List.{take_rest}
use Rattle.blog_row.specs.declared.order.Order.TheVariants.{Forward}
use Rattle.blog_trans.specs.code.GroupEventsView.{event_seen, events_left}
use Rattle.blog_trans.specs.code.IndexView.{index_groups}
use Rattle.blog_trans.specs.code.InTurn.{in_turn}
use Rattle.blog_left_out.specs.code.InTurn.{written_in_turn}
use Rattle.blog_left_out.specs.code.StepView.{held_value}
use Rattle.blog_left_out.proofs.Stepping.{turn-more, turn-refused}
use Rattle.blog_left_out.proofs.writing.put_groups.Goals as goal

pub loop-event-preserved : goal.loop-event-preserved
loop-event-preserved g c =
    let step = c.in-Ok.ensures in
    record {
      next = tt;
      finite = tt;
      left = turn-more c.args.out.now.items c.loop-event.out.items c.put_one.new.out.items (written_in_turn c.args.marks.now None (in_turn Forward (index_groups c.args.index.now))) c.args.marks.now _ c.loop-event.at
          c.in-Ok.step.used (held_value c.loop-event.held) (held_value c.in-Ok.step.held) (event_seen c.in-Some.event) (events_left c.loop-event.event-iterator) (events_left c.next.new.self)
          c.in-Some.ensures.steps.first (take_rest c.args.marks.now c.loop-event.at) step.put step.held_is step.left c.loop-event.invariant.left;
      within = omega (arith, step.within, c.loop-event.invariant.within, ap length (take_rest c.args.marks.now c.loop-event.at), length-drop c.loop-event.at c.args.marks.now);
    }

pub returns-in-Err : goal.returns-in-Err
returns-in-Err g c =
    turn-refused c.args.out.now.items c.loop-event.out.items (written_in_turn c.args.marks.now None (in_turn Forward (index_groups c.args.index.now))) c.args.marks.now _ c.loop-event.at
    (held_value c.loop-event.held) (event_seen c.in-Some.event) (events_left c.loop-event.event-iterator) (events_left c.next.new.self) c.in-Err.fault
    c.in-Some.ensures.steps.first (take_rest c.args.marks.now c.loop-event.at) c.in-Err.ensures c.loop-event.invariant.left
