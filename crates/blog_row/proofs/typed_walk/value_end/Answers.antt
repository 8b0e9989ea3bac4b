use Rattle.blog_row.proofs.PositionWalking.{column_ends}
use Rattle.blog_row.proofs.typed_walk.value_end.Goals as goal

pub returns : goal.returns
returns c = column_ends _ _ c.args.at c.args.bytes.now _ c.storage_at.ensures c.stored_end.ensures
