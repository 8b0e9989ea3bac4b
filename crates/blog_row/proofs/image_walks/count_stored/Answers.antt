-- A table has at most 4,096 columns.
use Rattle.blog_row.proofs.RowsCode.{few_columns}
use Rattle.blog_row.proofs.image_walks.count_stored.Goals as goal

pub count_up_to-requires-else-columns-le-WIDE_STORAGES-clause-columns : goal.count_up_to-requires-else-columns-le-WIDE_STORAGES-clause-columns
count_up_to-requires-else-columns-le-WIDE_STORAGES-clause-columns c = few_columns c.args.layout.now
