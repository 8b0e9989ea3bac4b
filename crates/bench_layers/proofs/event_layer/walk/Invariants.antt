use Rattle.std.proofs.Common.{◌≡◌, ◌+◌, ◌-◌, ◌≤◌, length}
use Rattle.std.specs.Prelude.{◌/◌}
use Rattle.blog_event.specs.code.LogView.{items_left, most_left, log_bytes}
use Rattle.blog_event.specs.Items.{items_from}
use Rattle.bench_layers.proofs.event_layer.walk.Given as goal

-- the items that the iterator still gives are left to be counted
abbrev pub invariant-loop-item : goal.invariant-loop-item
invariant-loop-item l = record {
  next : goal.iterator-loop-item.can_next l.item-iterator;
  finite : goal.iterator-loop-item.is_finite l.item-iterator;
  counted : l.events + length (items_left l.item-iterator) ≡ length (items_from (log_bytes l.log) l.from);
  few : l.events + most_left l.item-iterator ≤ 1 + (length (log_bytes l.log) - l.from) / 19;
}
