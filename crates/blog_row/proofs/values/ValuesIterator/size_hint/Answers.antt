-- One value for each column that is left.
use Rattle.std.proofs.Common.{◌≡◌, ℕ, length, drop, Some, ap, arith, length-drop}
use Rattle.blog_row.specs.Column.{Layout, columns_of}
use Rattle.blog_row.specs.code.ValuesView.{values_left}
use Rattle.blog_row.proofs.Layouts.{length_of_columns}
use Rattle.blog_row.proofs.ValueWalking.{as_many_read}
use Rattle.blog_row.proofs.values.ValuesIterator.size_hint.Goals as goal

pub returns-clause-exact : goal.returns-clause-exact
returns-clause-exact c =
    let v = c.args.self.now in
    let columns : Layout = columns_of (drop v.column v.kinds.now) v.metadata.now in
    let many : length (values_left v) ≡ length columns = as_many_read columns v.nulls.now v.column v.rest.now v.imaged in
    let left = length_of_columns (drop v.column v.kinds.now) v.metadata.now in
    let dropped = length-drop v.column v.kinds.now in
    let less = c.saturating_sub-left.ensures in
    let same : c.saturating_sub-left.result ≡ length (values_left v) = omega (arith, many, left, dropped, less) in
    ap (λ (n : ℕ). (n, Some n)) same
