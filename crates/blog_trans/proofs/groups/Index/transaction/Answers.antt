use Rattle.std.proofs.Common.{ap, arith}
use Rattle.std.proofs.lemmas.List.{take_all}
use Rattle.blog_trans.specs.declared.lists.TransactionStart.{TransactionStart}
use Rattle.blog_trans.proofs.EntriesFound.{own_item}
use Rattle.blog_trans.proofs.IndexFacts.{many_transactions, many_statements, transaction_read}
use Rattle.blog_trans.proofs.groups.Index.transaction.Goals as goal

pub index-start-requires : goal.index-start-requires
index-start-requires g c = omega (arith, many_transactions c.args.self.now)

pub returns-then-t-transactions : goal.returns-then-t-transactions
returns-then-t-transactions g c =
    let index = c.args.self.now in
    let is = own_item index.transactions.items c.args.t c.index-start.result.now _ (transaction_read index c.args.t (omega arith)) c.index-start.ensures in
    record { entry = ap (λ (x : TransactionStart). x.entry) is; statement = ap (λ (x : TransactionStart). x.statement) is }

pub returns-else-t-transactions : goal.returns-else-t-transactions
returns-else-t-transactions g c = grind (arith, take_all, many_statements)
