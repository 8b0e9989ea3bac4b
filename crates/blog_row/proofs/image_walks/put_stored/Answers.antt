-- A table has at most 4,096 columns.
use Rattle.blog_row.proofs.RowsCode.{few_columns}
use Rattle.blog_row.proofs.image_walks.put_stored.Goals as goal

pub put_up_to-requires-else-columns-le-WIDE_STORAGES-clause-columns : goal.put_up_to-requires-else-columns-le-WIDE_STORAGES-clause-columns
put_up_to-requires-else-columns-le-WIDE_STORAGES-clause-columns c = few_columns c.args.layout.now
