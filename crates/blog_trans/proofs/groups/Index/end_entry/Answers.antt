use Rattle.std.proofs.Common.{arith}
use Rattle.blog_trans.proofs.EntriesFound.{next_transaction}
use Rattle.blog_trans.proofs.IndexFacts.{found, many_transactions}
use Rattle.blog_trans.proofs.groups.Index.end_entry.Goals as goal

pub overflow_add-t : goal.overflow_add-t
overflow_add-t g c = omega (arith, many_transactions c.args.self.now)

pub overflow_sub-result : goal.overflow_sub-result
overflow_sub-result g c = grind (arith, found, next_transaction)

pub returns : goal.returns
returns g c = grind (arith, found, next_transaction)
