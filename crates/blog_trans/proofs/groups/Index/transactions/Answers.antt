use Rattle.std.proofs.Common.{arith}
use Rattle.blog_trans.proofs.IndexFacts.{many_transactions}
use Rattle.blog_trans.proofs.groups.Index.transactions.Goals as goal

pub returns : goal.returns
returns g c = omega (arith, many_transactions c.args.self.now)
