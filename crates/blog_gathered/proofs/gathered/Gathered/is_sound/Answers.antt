use Rattle.std.proofs.Common.{subst, arith}
use Rattle.blog_event.specs.File.{AreBytes}
use Rattle.blog_gathered.proofs.gathered.Gathered.is_sound.Goals as goal

pub returns : goal.returns
returns g c = (subst AreBytes c.requires (λ i. omega (arith, c.type_inv.bytes i)), c.args.index.now.accepted)
