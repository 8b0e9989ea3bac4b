use Rattle.std.proofs.Common.{◌+◌, ap, arith}
use Rattle.std.proofs.lemmas.Option.{slice_get_within}
use Rattle.blog_trans.specs.declared.lists.StatementStart.{StatementStart}
use Rattle.blog_trans.proofs.EntriesFound.{own_item}
use Rattle.blog_trans.proofs.IndexFacts.{below, statement_read}
use Rattle.blog_trans.proofs.groups.Index.statement.Goals as goal

pub transaction-requires : goal.transaction-requires
transaction-requires g c = omega (arith, below c.args.self.now c.args.t c.args.s c.requires)

pub overflow_add-transaction : goal.overflow_add-transaction
overflow_add-transaction g c =
    omega (arith, slice_get_within c.args.self.now.statements.items (c.transaction.result.1 + c.args.s) _ (statement_read c.args.self.now c.args.t c.args.s (c.transaction.result.1 + c.args.s) c.requires (ap (λ n. n + c.args.s) c.transaction.ensures.statement)))

pub index-requires : goal.index-requires
index-requires g c =
    omega (arith, slice_get_within c.args.self.now.statements.items (c.transaction.result.1 + c.args.s) _ (statement_read c.args.self.now c.args.t c.args.s (c.transaction.result.1 + c.args.s) c.requires (ap (λ n. n + c.args.s) c.transaction.ensures.statement)))

pub returns : goal.returns
returns g c =
    let n = c.transaction.result.1 + c.args.s in
    let is = own_item c.args.self.now.statements.items n c.index.result.now _ (statement_read c.args.self.now c.args.t c.args.s n c.requires (ap (λ n. n + c.args.s) c.transaction.ensures.statement)) c.index.ensures in
    record { entry = ap (λ (x : StatementStart). x.entry) is; maps = ap (λ (x : StatementStart). x.maps) is }
