use Rattle.std.proofs.Common.{arith}
use Rattle.std.proofs.lemmas.Option.{same_Some}
use Rattle.blog_trans.proofs.EntriesFound.{last_statement}
use Rattle.blog_trans.proofs.IndexFacts.{below, found, many_transactions}
use Rattle.blog_trans.proofs.groups.Index.statement_end.Goals as goal

pub statements-requires : goal.statements-requires
statements-requires g c = below c.args.self.now c.args.t c.args.s c.requires

pub overflow_add-t : goal.overflow_add-t
overflow_add-t g c = omega (arith, many_transactions c.args.self.now, below c.args.self.now c.args.t c.args.s c.requires)

pub transaction-requires : goal.transaction-requires
transaction-requires g c = omega (arith, below c.args.self.now c.args.t c.args.s c.requires)

pub returns-else-statements-s : goal.returns-else-statements-s
returns-else-statements-s g c = grind (arith, found, below, same_Some, last_statement)
