-- What a contract sees of a table whose rows change.
use Rattle.std.specs.Prelude.{◌≡◌, ℕ, List}
use Rattle.blog_later.specs.Prints.{table_hasher}
use Rattle.blog_row.specs.Column.{Layout}
use Rattle.blog_trans.specs.Changes.{table_of}
use Rattle.blog_pairs.specs.code.ColumnsView.{columns_told}
use Rattle.blog_pairs.specs.code.PairsView.{HasColumns, table_at}
use Rattle.blog_pairs.specs.declared.changed.ChangedTable.{ChangedTable}

-- the table is that of a body, with these columns
pub record IsTableOf (bodies : List (List ℕ)) (body : List ℕ) (columns : Layout) (table : ChangedTable) : Type 0 where
  pub named : table_at bodies table.number ≡ table_of body
  pub has : HasColumns bodies table.number columns
  pub same : columns_told table.columns ≡ columns
  pub hasher : table.hasher ≡ table_hasher (table_of body)
