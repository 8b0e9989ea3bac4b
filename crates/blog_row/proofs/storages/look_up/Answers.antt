use Rattle.std.proofs.Common.{arith}
use Rattle.blog_row.proofs.StorageWalking.{looked_up_all}
use Rattle.blog_row.proofs.storages.look_up.Goals as goal

pub returns-clause-stored : goal.returns-clause-stored
returns-clause-stored c = looked_up_all c.args.kinds.now c.args.metadata.now c.loop-i.left.now c.loop-i.storages c.loop-i.i (omega arith) c.loop-i.invariant
