use Rattle.std.proofs.Common.{refl}
use Rattle.blog_pairs.proofs.Holding.{bodies_set}
use Rattle.blog_pairs.proofs.updates.hold_update.Goals as goal

pub returns : goal.returns
returns g c = bodies_set c.args.tables.now.items c.args.number _ c.index_mut.result.now c.index_mut.ensures.value refl
