use Rattle.std.proofs.Common.{arith}
use Rattle.blog_trans.proofs.EntriesFound.{many}
use Rattle.blog_trans.proofs.IndexFacts.{end_found}
use Rattle.blog_trans.proofs.groups.Index.rows.Goals as goal

pub overflow_sub-result : goal.overflow_sub-result
overflow_sub-result g c = omega (arith, end_found c.args.self.now c.args.t c.args.s c.requires)

pub returns : goal.returns
returns g c = grind (arith, many, end_found)
