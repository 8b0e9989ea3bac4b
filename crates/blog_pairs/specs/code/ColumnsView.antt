-- What a contract sees of the columns of a table.
use Rattle.blog_row.specs.Column.{Layout}
use Rattle.blog_row.specs.code.LayoutView.{layout_columns}
use Rattle.blog_pairs.specs.declared.columns.Columns as told

-- the columns, in order
abbrev pub columns_told : told.Columns → Layout
columns_told columns = layout_columns columns.layout
