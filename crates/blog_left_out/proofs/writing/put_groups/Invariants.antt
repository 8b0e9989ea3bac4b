use Rattle.std.proofs.Common.{◌≤◌, length, drop, None}
use Rattle.blog_row.specs.declared.order.Order.TheVariants.{Forward}
use Rattle.blog_trans.specs.code.GroupEventsView.{events_left}
use Rattle.blog_trans.specs.code.InTurn.{in_turn}
use Rattle.blog_trans.specs.code.IndexView.{index_groups}
use Rattle.blog_left_out.specs.code.InTurn.{written_in_turn}
use Rattle.blog_left_out.specs.code.StepView.{held_value}
use Rattle.blog_left_out.proofs.Putting.{IsLeft}
use Rattle.blog_left_out.proofs.writing.put_groups.Given as goal

-- what is written for the events that the iterator still gives is left
abbrev pub invariant-loop-event : goal.invariant-loop-event
invariant-loop-event g l = record {
  next : (goal.iterator-loop-event g).can_next l.event-iterator;
  finite : (goal.iterator-loop-event g).is_finite l.event-iterator;
  left : IsLeft l.fn.out.items (written_in_turn l.marks None (in_turn Forward (index_groups l.index))) l.out.items (written_in_turn (drop l.at l.marks) (held_value l.held) (events_left l.event-iterator));
  within : l.at ≤ length l.marks;
}
