use Rattle.std.proofs.Common.{arith}
use Rattle.blog_row.proofs.TypeBytes.{own_fits}
use Rattle.blog_row.proofs.layout.stored_here.Goals as goal

pub split_at-requires : goal.split_at-requires
split_at-requires c = omega (arith, own_fits c.args.kind c.args.metadata.now c.requires, c.own_len.ensures)
