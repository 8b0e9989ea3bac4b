use Rattle.blog_merge.proofs.Columns.{merged-row}
use Rattle.blog_merge.proofs.row_laws.rows_are_merged_by_column.Goals as goal

pub returns : goal.returns
returns c = merged-row
