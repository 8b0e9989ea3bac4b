-- The first of the columns that are left has the first of the values that are left.
use Rattle.std.proofs.Common.{◌≡◌, ◌∙◌, ◌≤◌, length, true, false, sym, arith}
use Rattle.blog_row.specs.Image.{is_marked}
use Rattle.blog_row.specs.code.StoredLayoutView.{stored_columns}
use Rattle.blog_row.proofs.StoredWalking.{null_next, value_next, value_is_there, none_next}
use Rattle.blog_row.proofs.stored_values.StoredValuesIterator.next.Goals as goal

pub returns-then-column-columns-clause-steps : goal.returns-then-column-columns-clause-steps
returns-then-column-columns-clause-steps c =
    let v = c.args.self.now in
    let all : length (stored_columns v.layout.now) ≤ v.column = omega (arith, c.if-column-columns.true, c.columns.ensures) in
    let none = none_next (stored_columns v.layout.now) v.column v.nulls.now v.rest.now all in
    (none, none)

pub invariant_of-self : goal.invariant_of-self
invariant_of-self c =
    let v = c.args.self.now in
    let marked : is_marked v.nulls.now v.column ≡ true = sym c.is_set.ensures ∙ c.if-is_set.true in
    let first = null_next (stored_columns v.layout.now) v.column c.storage_at-storage.result.0 v.nulls.now v.rest.now c.storage_at-storage.ensures.stored marked v.imaged in
    record { ahead = c.storage_at-storage.ensures.ahead; long = λ below. v.long (omega (arith, below)); imaged = first.imaged }

pub returns-then-is_set-clause-steps : goal.returns-then-is_set-clause-steps
returns-then-is_set-clause-steps c =
    let v = c.args.self.now in
    let marked : is_marked v.nulls.now v.column ≡ true = sym c.is_set.ensures ∙ c.if-is_set.true in
    (null_next (stored_columns v.layout.now) v.column c.storage_at-storage.result.0 v.nulls.now v.rest.now c.storage_at-storage.ensures.stored marked v.imaged).row

pub unreachable-requires : goal.unreachable-requires
unreachable-requires c =
    let v = c.args.self.now in
    let marked : is_marked v.nulls.now v.column ≡ false = sym c.is_set.ensures ∙ c.if-is_set.false in
    value_is_there (stored_columns v.layout.now) v.column c.storage_at-storage.result.0 v.nulls.now v.rest.now c.storage_at-storage.ensures.stored marked (sym c.in_default.ensures) v.imaged

pub invariant_of-self-2 : goal.invariant_of-self-2
invariant_of-self-2 c =
    let v = c.args.self.now in
    let marked : is_marked v.nulls.now v.column ≡ false = sym c.is_set.ensures ∙ c.if-is_set.false in
    let first = value_next (stored_columns v.layout.now) v.column c.storage_at-storage.result.0 v.nulls.now v.rest.now c.in-Some.value.now c.in-Some.rest.now c.storage_at-storage.ensures.stored marked (sym c.in-Some.ensures) v.imaged in
    record { ahead = c.storage_at-storage.ensures.ahead; long = λ below. v.long (omega (arith, below)); imaged = first.imaged }

pub returns-clause-steps : goal.returns-clause-steps
returns-clause-steps c =
    let v = c.args.self.now in
    let marked : is_marked v.nulls.now v.column ≡ false = sym c.is_set.ensures ∙ c.if-is_set.false in
    (value_next (stored_columns v.layout.now) v.column c.storage_at-storage.result.0 v.nulls.now v.rest.now c.in-Some.value.now c.in-Some.rest.now c.storage_at-storage.ensures.stored marked (sym c.in-Some.ensures) v.imaged).row
