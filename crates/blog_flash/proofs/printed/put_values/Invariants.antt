use Rattle.std.proofs.Common.{◌≡◌, ◌≤◌, ◌+◌, ◌++◌, length, vec_capacity}
use Rattle.blog_row.specs.Image.{row_of}
use Rattle.blog_row.specs.code.StoredLayoutView.{stored_columns}
use Rattle.blog_row.specs.code.StoredValuesView.{stored_values_left}
use Rattle.blog_flash.specs.Printed.{value_lines}
use Rattle.blog_flash.proofs.printed.put_values.Given as goal

-- the values are left from column n on
abbrev pub invariant-loop-value : goal.invariant-loop-value
invariant-loop-value g l = record {
  next : (goal.iterator-loop-value g).can_next l.value-iterator;
  finite : (goal.iterator-loop-value g).is_finite l.value-iterator;
  text : l.out.items ++ value_lines l.n (stored_values_left l.value-iterator) ≡ l.fn.out.items ++ value_lines 1 (row_of (stored_columns l.layout) l.image);
  few : l.n + length (stored_values_left l.value-iterator) ≤ 4097;
  capacity : vec_capacity l.fn.out ≤ vec_capacity l.out;
}
