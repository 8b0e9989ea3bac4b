use Rattle.std.proofs.Common.{◌≡◌}
use Rattle.blog_row.specs.Image.{row_of}
use Rattle.blog_row.specs.code.StoredLayoutView.{stored_columns}
use Rattle.blog_row.specs.code.StoredValuesView.{stored_values_left}
use Rattle.blog_later.specs.Prints.{with_values}
use Rattle.blog_later.proofs.prints.with_values.Given as goal

-- the values are left that the iterator still gives
abbrev pub invariant-loop-value : goal.invariant-loop-value
invariant-loop-value l = record {
  next : goal.iterator-loop-value.can_next l.value-iterator;
  finite : goal.iterator-loop-value.is_finite l.value-iterator;
  hashed : with_values l.hasher (stored_values_left l.value-iterator) ≡ with_values l.fn.hasher (row_of (stored_columns l.layout) l.image);
}
