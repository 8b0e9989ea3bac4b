use Rattle.std.proofs.Common.{arith}
use Rattle.blog_event.proofs.Framing.{bytes-take}
use Rattle.blog_split.specs.code.Marks.{id_number}
use Rattle.blog_split.proofs.used_maps.id_of.Goals as goal

pub returns-clause-number : goal.returns-clause-number
unfolding id_number
returns-clause-number c = c.read_u48.ensures

pub returns-clause-bytes : goal.returns-clause-bytes
returns-clause-bytes c = bytes-take 6 c.args.body.now (λ i. omega (arith, c.type_inv.body i))
