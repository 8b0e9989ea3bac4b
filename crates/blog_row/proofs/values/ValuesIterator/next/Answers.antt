-- The first of the columns that are left has the first of the values that are left.
use Rattle.std.proofs.Common.{◌≡◌, ◌∙◌, ℕ, List, [], drop, get_or, Some, None, true, false, ap, sym}
use Rattle.std.proofs.lemmas.List.{drop_all}
use Rattle.blog_row.specs.Column.{Layout, value_front, columns_of}
use Rattle.blog_row.specs.code.LayoutReading.{column_here}
use Rattle.blog_row.specs.Image.{values_front, is_marked}
use Rattle.blog_row.proofs.Walking.{front_is}
use Rattle.blog_row.proofs.ValueWalking.{row_read, none_read, null_first, value_first, value_there}
use Rattle.blog_row.proofs.values.ValuesIterator.next.Goals as goal

pub returns-then-column-self-clause-steps : goal.returns-then-column-self-clause-steps
returns-then-column-self-clause-steps c =
    let v = c.args.self.now in
    let none : columns_of (drop v.column v.kinds.now) v.metadata.now ≡ [] = ap (λ (t : List ℕ). columns_of t v.metadata.now) (drop_all v.column v.kinds.now c.if-column-self.true) in
    let left = ap (λ (columns : Layout). row_read (values_front columns v.nulls.now v.column v.rest.now)) none ∙ none_read v.nulls.now v.column v.rest.now in
    (left, left)

pub invariant_of-self : goal.invariant_of-self
invariant_of-self c =
    let v = c.args.self.now in
    let marked : is_marked v.nulls.now v.column ≡ true = sym c.is_set.ensures ∙ c.if-is_set.true in
    let first = null_first _ _ v.nulls.now v.column v.rest.now marked (rw c.column_at-storage.ensures.columns at v.imaged) in
    record { known = c.column_at-storage.ensures.known; long = v.long; imaged = first.imaged }

pub unreachable-requires : goal.unreachable-requires
unreachable-requires c =
    let v = c.args.self.now in
    let marked : is_marked v.nulls.now v.column ≡ false = sym c.is_set.ensures ∙ c.if-is_set.false in
    let front : value_front (column_here (get_or v.kinds.now v.column 0) v.metadata.now) v.rest.now ≡ None = front_is _ _ _ c.column_at-storage.ensures.stored ∙ sym c.in_default.ensures in
    value_there _ _ v.nulls.now v.column v.rest.now marked front (rw c.column_at-storage.ensures.columns at v.imaged)

pub invariant_of-self-2 : goal.invariant_of-self-2
invariant_of-self-2 c =
    let v = c.args.self.now in
    let marked : is_marked v.nulls.now v.column ≡ false = sym c.is_set.ensures ∙ c.if-is_set.false in
    let front : value_front (column_here (get_or v.kinds.now v.column 0) v.metadata.now) v.rest.now ≡ Some (c.in-Some.value.now, c.in-Some.rest.now) = front_is _ _ _ c.column_at-storage.ensures.stored ∙ sym c.in-Some.ensures in
    let first = value_first _ _ v.nulls.now v.column v.rest.now c.in-Some.value.now c.in-Some.rest.now marked front (rw c.column_at-storage.ensures.columns at v.imaged) in
    record { known = c.column_at-storage.ensures.known; long = v.long; imaged = first.imaged }
