use Rattle.std.proofs.Common.{◌≡◌, ◌++◌, drop}
use Rattle.std.specs.Prelude.{map}
use Rattle.blog_row.specs.Column.{columns_of}
use Rattle.blog_row.specs.code.LayoutView.{layout_columns}
use Rattle.blog_columns.specs.code.ColumnView.{column_seen}
use Rattle.blog_columns.proofs.reading.read_columns.Given as goal

-- those of the types that are left are still to be added
abbrev pub invariant-loop-kind : goal.invariant-loop-kind
invariant-loop-kind g l = map column_seen l.columns.items ++ columns_of (drop l.kind-index l.types) l.metadata ≡ layout_columns l.layout
