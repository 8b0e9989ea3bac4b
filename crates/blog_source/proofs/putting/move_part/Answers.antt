-- It is moved, or is there already.
use Rattle.std.proofs.Common.{arith}
use Rattle.blog_source.proofs.Moving.{part-moved, part-there}
use Rattle.blog_source.proofs.putting.move_part.Goals as goal

pub returns-then-to-at-clause-part : goal.returns-then-to-at-clause-part
returns-then-to-at-clause-part c = part-moved c.args.bytes.now c.copy_within.new.self c.args.at c.args.to c.args.len c.copy_within.ensures.after

pub returns-else-to-at-clause-part : goal.returns-else-to-at-clause-part
returns-else-to-at-clause-part c = part-there c.args.bytes.now c.args.at c.args.to c.args.len (omega arith)
