use Rattle.std.proofs.Common.{◌≡◌, ◌∙◌, ◌≤◌, ◌+◌, ◌-◌, List, ℕ, length, drop, ap, arith}
use Rattle.std.proofs.lemmas.List.{drop_all}
use Rattle.blog_row.specs.Column.{columns_of}
use Rattle.blog_row.specs.code.PositionView.{behind_from, from_position}
use Rattle.blog_row.proofs.PositionWalking.{past_all}
use Rattle.blog_row.proofs.typed_walk.values_end.Goals as goal

-- no columns are left
none_left : (kinds left nulls bytes : List ℕ) (i at : ℕ) → length kinds ≤ i → behind_from (columns_of (drop i kinds) left) nulls i at bytes ≡ from_position at bytes
none_left kinds left nulls bytes i at h =
    ap (λ (t : List ℕ). behind_from (columns_of t left) nulls i at bytes) (drop_all i kinds h) ∙ past_all nulls i at bytes

pub returns-in_ok-end-2-clause-some : goal.returns-in_ok-end-2-clause-some
returns-in_ok-end-2-clause-some c =
    let last = c.columns.from + (length c.args.kinds.now - c.columns.from) in
    let all : length c.args.kinds.now ≤ last = omega (arith, c.columns.invariant.0) in
    c.columns.invariant.3 ∙ c.in_ok-end-2.ensures.some ∙ none_left c.args.kinds.now c.in_ok-end-2.field-0-1.now c.args.nulls.now c.args.bytes.now last c.in_ok-end-2.field-0-0 all

pub returns-else-from-kinds-clause-some : goal.returns-else-from-kinds-clause-some
returns-else-from-kinds-clause-some c =
    let all : length c.args.kinds.now ≤ c.columns.from = omega (arith, c.if-from-kinds.false) in
    c.columns.invariant.3 ∙ none_left c.args.kinds.now c.columns.left.now c.args.nulls.now c.args.bytes.now c.columns.from c.columns.end all
