use Rattle.std.proofs.Common.{arith, ◌≡◌, ap, ◌∙◌}
use Rattle.std.specs.Prelude.{slice_get}
use Rattle.std.proofs.lemmas.Option.{slice_get_read, slice_get-get_or, slice_get_past}
use Rattle.blog_trans.proofs.CountsCode.{told-first}
use Rattle.blog_trans.proofs.counts.Counts.table.Goals as goal

pub returns : goal.returns
returns g c = λ tables cs ts are.
    let counts = c.args.self.now in
    let k = c.index-table.result.now in
    let first = slice_get_read counts.tables.items counts.tables.len c.args.n k counts.tables.ok.0 c.requires c.index-table.ensures in
    let (t, at, told) = told-first tables cs ts counts c.args.n k are first in
    let same : slice_get c.deref.result.now k ≡ slice_get counts.rows.items k = ap (λ xs. slice_get xs k) c.deref.ensures.value in
    (t, at, told ∙ (let count = c.unwrap_or_default.ensures in grind (arith, slice_get-get_or c.deref.result.now k c.unwrap_or_default.result, slice_get_past c.deref.result.now k)))
