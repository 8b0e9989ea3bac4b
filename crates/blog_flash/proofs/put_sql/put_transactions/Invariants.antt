use Rattle.std.proofs.Common.{◌≡◌, ◌≤◌, ◌++◌, vec_capacity}
use Rattle.std.specs.List.{flat_map}
use Rattle.blog_trans.specs.Groups.{groups}
use Rattle.blog_trans.specs.code.GroupEventsView.{events_left}
use Rattle.blog_trans.specs.code.IndexView.{index_bytes, index_selection}
use Rattle.blog_flash.specs.Printed.{sql_text}
use Rattle.blog_flash.specs.code.PrintedRows.{event_lines}
use Rattle.blog_flash.proofs.put_sql.put_transactions.Given as goal

-- the events are left that the iterator still gives
abbrev pub invariant-loop-event : goal.invariant-loop-event
invariant-loop-event g l = record {
  next : (goal.iterator-loop-event g).can_next l.event-iterator;
  finite : (goal.iterator-loop-event g).is_finite l.event-iterator;
  text : l.out.items ++ flat_map (λ e. event_lines e) (events_left l.event-iterator) ≡ l.fn.out.items ++ sql_text (groups (index_bytes l.index) (index_selection l.index));
  capacity : vec_capacity l.fn.out ≤ vec_capacity l.out;
}
