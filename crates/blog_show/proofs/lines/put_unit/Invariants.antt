use Rattle.std.proofs.Common.{List, ℕ}
use Rattle.blog_choice.specs.code.Views.{choice_value}
use Rattle.blog_list.specs.code.Told.{source_place}
use Rattle.blog_row.specs.declared.order.Order.TheVariants.{Forward}
use Rattle.blog_trans.specs.code.GroupEventsView.{events_left}
use Rattle.blog_trans.specs.code.InTurn.{in_turn}
use Rattle.blog_trans.specs.code.IndexView.{index_groups}
use Rattle.blog_show.specs.Shown.{ShowsEvents}
use Rattle.blog_show.proofs.lines.put_unit.Given as goal

-- what shows the events that the iterator still gives ends what shows all
abbrev pub invariant-loop-event : goal.invariant-loop-event
invariant-loop-event g l = record {
  next : (goal.iterator-loop-event g).can_next l.event-iterator;
  finite : (goal.iterator-loop-event g).is_finite l.event-iterator;
  shown : (new : List ℕ) → ShowsEvents l.style.form (choice_value l.choice) (source_place l.source) (events_left l.event-iterator) l.out.items new
      → ShowsEvents l.style.form (choice_value l.choice) (source_place l.source) (in_turn Forward (index_groups l.index)) l.fn.out.items new;
}
