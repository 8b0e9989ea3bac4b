use Rattle.std.proofs.Common.{◌≡◌}
use Rattle.std.specs.Cmp.Lexicographic.{pointwise}
use Rattle.blog_flash.specs.States.{is_same_value}
use Rattle.blog_row.specs.Image.{row_of}
use Rattle.blog_row.specs.code.StoredLayoutView.{stored_columns}
use Rattle.blog_row.specs.code.StoredValuesView.{stored_values_left}
use Rattle.blog_pairs.proofs.values.is_same_row.Given as goal

-- the values are left that the iterators still give
abbrev pub invariant-loop-value : goal.invariant-loop-value
invariant-loop-value l = record {
  next : goal.iterator-loop-value.can_next l.value-iterator;
  finite : goal.iterator-loop-value.is_finite l.value-iterator;
  left : pointwise is_same_value (stored_values_left l.value-iterator) (stored_values_left l.others)
      ≡ pointwise is_same_value (row_of (stored_columns l.layout) l.one) (row_of (stored_columns l.layout) l.other);
}
