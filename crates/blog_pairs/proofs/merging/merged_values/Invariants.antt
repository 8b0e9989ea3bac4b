use Rattle.std.proofs.Common.{◌≡◌, ◌++◌, map}
use Rattle.blog_merge.specs.Merge.{merged}
use Rattle.blog_row.specs.Image.{row_of}
use Rattle.blog_row.specs.code.StoredLayoutView.{stored_columns}
use Rattle.blog_row.specs.code.StoredValuesView.{stored_values_left}
use Rattle.blog_row.specs.code.ValuesView.{value_bytes}
use Rattle.blog_pairs.proofs.merging.merged_values.Given as goal

-- the values are left that the iterators still give
abbrev pub invariant-loop-value : goal.invariant-loop-value
invariant-loop-value g l = record {
  next : (goal.iterator-loop-value g).can_next l.value-iterator;
  finite : (goal.iterator-loop-value g).is_finite l.value-iterator;
  left : map value_bytes l.row.items ++ merged (stored_values_left l.befores) (stored_values_left l.value-iterator) (stored_values_left l.others)
      ≡ merged (row_of (stored_columns l.layout) l.before) (row_of (stored_columns l.layout) l.after) (row_of (stored_columns l.layout) l.other);
}
