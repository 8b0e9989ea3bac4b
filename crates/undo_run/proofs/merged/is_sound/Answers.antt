use Rattle.std.proofs.Common.{subst, arith}
use Rattle.blog_event.specs.File.{AreBytes}
use Rattle.undo_run.proofs.merged.is_sound.Goals as goal

pub returns-clause-bytes : goal.returns-clause-bytes
returns-clause-bytes g c = subst AreBytes c.requires (λ i. omega (arith, c.type_inv.bytes i))

pub returns-clause-accepted : goal.returns-clause-accepted
returns-clause-accepted g c = c.args.index.now.accepted
