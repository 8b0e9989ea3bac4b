use Rattle.std.proofs.Common.{arith}
use Rattle.blog_row.proofs.TypeBytes.{known_here}
use Rattle.blog_row.proofs.layout.column_at.Goals as goal

pub split_at-requires : goal.split_at-requires
split_at-requires c =
    let k = known_here c.args.kinds.now c.args.metadata.now c.args.i c.requires.below c.requires.known in
    omega (arith, k.fits, c.own_len.ensures)
