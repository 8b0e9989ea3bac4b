use Rattle.std.proofs.Common.{Some, length, option_map, ap, ◌∙◌, arith}
use Rattle.blog_trans.specs.code.IndexView.{index_groups}
use Rattle.blog_trans.proofs.EntriesFound.{flat_next}
use Rattle.blog_trans.proofs.IndexFacts.{found, many_transactions}
use Rattle.blog_trans.proofs.groups.Index.statements.Goals as goal

pub overflow_add-t : goal.overflow_add-t
overflow_add-t g c = omega (arith, many_transactions c.args.self.now)

pub overflow_sub-result : goal.overflow_sub-result
overflow_sub-result g c =
    let (x, at) = found (index_groups c.args.self.now) c.args.t c.requires in
    omega (arith, flat_next (λ x. x.statements) (index_groups c.args.self.now) c.args.t x at)

pub returns : goal.returns
returns g c =
    let (x, at) = found (index_groups c.args.self.now) c.args.t c.requires in
    ap (option_map (λ x. length x.statements)) at ∙ ap Some (omega (arith, flat_next (λ x. x.statements) (index_groups c.args.self.now) c.args.t x at))
