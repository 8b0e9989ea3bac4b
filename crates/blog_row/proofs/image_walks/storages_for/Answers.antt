-- Where the columns are few, their storages are looked up.
use Rattle.std.proofs.Common.{arith}
use Rattle.blog_row.specs.code.LayoutView.{layout_columns}
use Rattle.blog_row.proofs.StorageWalking.{stored_lists}
use Rattle.blog_row.proofs.image_walks.storages_for.Goals as goal

pub returns-then-pays_before : goal.returns-then-pays_before
returns-then-pays_before c = (omega (arith, c.pays_before.ensures c.if-pays_before.true, c.columns-columns.ensures), stored_lists (layout_columns c.args.layout.now) _ c.look_up.ensures.stored)
