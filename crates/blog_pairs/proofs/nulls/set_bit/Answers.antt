use Rattle.blog_pairs.proofs.NullBits.{set_marks}
use Rattle.blog_pairs.proofs.nulls.set_bit.Goals as goal

pub returns-clause-bits : goal.returns-clause-bits
returns-clause-bits c = λ k. set_marks c.args.bitmap.now c.args.i k c.requires
