use Rattle.blog_row.proofs.StorageWalking.{LookedUp}
use Rattle.blog_row.proofs.storages.look_up.Given as goal

abbrev pub invariant-loop-i : goal.invariant-loop-i
invariant-loop-i l = LookedUp l.kinds l.metadata l.storages l.i l.left
