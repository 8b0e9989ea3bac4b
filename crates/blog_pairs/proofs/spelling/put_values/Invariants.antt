use Rattle.std.proofs.Common.{◌≡◌, ◌++◌, drop, length, map}
use Rattle.blog_row.specs.Column.{columns_of, metadata_total}
use Rattle.blog_row.specs.code.LayoutView.{layout_columns}
use Rattle.blog_row.specs.code.ValuesView.{value_bytes}
use Rattle.blog_pairs.specs.Spelled.{values_text}
use Rattle.blog_pairs.proofs.spelling.put_values.Given as goal

-- the values from this one on are left, for the columns that are left
abbrev pub invariant-loop-value : goal.invariant-loop-value
invariant-loop-value g l = record {
  whole : metadata_total l.kinds ≡ length l.metadata;
  left : l.image.items ++ values_text (columns_of l.kinds l.metadata) (map value_bytes (drop l.value-index l.row))
      ≡ l.fn.image.items ++ values_text (layout_columns l.layout) (map value_bytes l.row);
}
