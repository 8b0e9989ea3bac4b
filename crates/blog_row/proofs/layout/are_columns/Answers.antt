use Rattle.std.proofs.Common.{◌≡◌, ◌+◌, length, sym, ◌∙◌, subst}
use Rattle.std.proofs.lemmas.Bool.{eqb-true}
use Rattle.blog_row.proofs.TypeBytes.{Stored, StoredNext, columns_without, stored_next}
use Rattle.blog_row.proofs.layout.are_columns.Goals as goal
use Rattle.blog_row.proofs.layout.are_columns.Goals.{After-is_allowed}

-- what the answer says of the columns up to this one
answer : (c : After-is_allowed) → StoredNext c.args.kinds.now c.args.metadata.now c.loop-kind.kind-index c.loop-kind.at c.min.result c.min-in-loop-kind.result
answer c = stored_next _ _ _ _ _ _ c.loop-kind.invariant c.loop-kind-test.true c.min.ensures c.min-in-loop-kind.ensures

pub returns-then-is_empty : goal.returns-then-is_empty
returns-then-is_empty c =
    let empty : length c.args.metadata.now ≡ 0 = eqb-true _ 0 (sym c.is_empty.ensures ∙ c.if-is_empty.true) in
    sym (columns_without c.args.kinds.now c.args.metadata.now c.requires.known (c.requires.whole ∙ empty))

pub returns-then-not-is_allowed : goal.returns-then-not-is_allowed
returns-then-not-is_allowed c = sym ((answer (goal.at.returns-then-not-is_allowed c).After-is_allowed).none (sym c.is_allowed.ensures ∙ c.if-not-is_allowed.true))

pub loop-kind-preserved : goal.loop-kind-preserved
loop-kind-preserved c =
    subst (λ n. Stored c.args.kinds.now c.args.metadata.now (c.loop-kind.kind-index + 1) (c.loop-kind.at + n)) (sym c.own_len-at.ensures)
    ((answer (goal.at.loop-kind-preserved c).After-is_allowed).next (sym c.is_allowed.ensures ∙ c.if-not-is_allowed.false))
