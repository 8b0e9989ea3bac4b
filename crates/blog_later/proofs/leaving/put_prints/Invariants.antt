use Rattle.std.proofs.Common.{◌≡◌, ◌++◌}
use Rattle.blog_trans.specs.Changes.{changes}
use Rattle.blog_trans.specs.code.GroupEventsView.{events_left}
use Rattle.blog_trans.specs.code.IndexView.{index_bytes, index_selection}
use Rattle.blog_later.specs.Prints.{print_in, prints_left, table_print}
use Rattle.blog_later.specs.code.EventChanges.{events_changes}
use Rattle.blog_later.proofs.leaving.put_prints.Given as goal

-- the events are left that the iterator still gives
abbrev pub invariant-loop-event : goal.invariant-loop-event
invariant-loop-event g l = record {
  next : (goal.iterator-loop-event g).can_next l.event-iterator;
  finite : (goal.iterator-loop-event g).is_finite l.event-iterator;
  rows : l.rows.items ++ prints_left (print_in l.list) (events_changes (events_left l.event-iterator)) ≡ l.fn.rows.items ++ prints_left (print_in l.list) (changes (index_bytes l.index) (index_selection l.index));
  tables : l.tables.items ++ prints_left (λ r. table_print r.table) (events_changes (events_left l.event-iterator))
      ≡ l.fn.tables.items ++ prints_left (λ r. table_print r.table) (changes (index_bytes l.index) (index_selection l.index));
}
