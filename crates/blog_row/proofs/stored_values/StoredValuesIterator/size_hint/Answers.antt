-- One value for each column that is left.
use Rattle.std.proofs.Common.{◌≡◌, ℕ, length, drop, Some, ap, arith, length-drop}
use Rattle.blog_row.specs.code.StoredLayoutView.{stored_columns}
use Rattle.blog_row.specs.code.StoredValuesView.{stored_values_left}
use Rattle.blog_row.proofs.ValueWalking.{as_many_read}
use Rattle.blog_row.proofs.stored_values.StoredValuesIterator.size_hint.Goals as goal

pub returns-clause-exact : goal.returns-clause-exact
returns-clause-exact c =
    let v = c.args.self.now in
    let many : length (stored_values_left v) ≡ length (drop v.column (stored_columns v.layout.now)) = as_many_read (drop v.column (stored_columns v.layout.now)) v.nulls.now v.column v.rest.now v.imaged in
    let dropped = length-drop v.column (stored_columns v.layout.now) in
    let same : c.saturating_sub-left.result ≡ length (stored_values_left v) = omega (arith, many, dropped, c.columns.ensures, c.saturating_sub-left.ensures) in
    ap (λ (n : ℕ). (n, Some n)) same
