use Rattle.std.proofs.Common.{arith}
use Rattle.blog_trans.proofs.IndexFacts.{many_statements}
use Rattle.blog_trans.proofs.groups.Index.all_statements.Goals as goal

pub returns : goal.returns
returns g c = omega (arith, many_statements c.args.self.now)
