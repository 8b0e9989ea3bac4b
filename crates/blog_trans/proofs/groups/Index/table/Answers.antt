use Rattle.std.proofs.Common.{◌≡◌, Some, None, sym, ap, ◌∙◌, arith}
use Rattle.std.proofs.lemmas.Option.{none-some, same_Some}
use Rattle.blog_trans.specs.code.IndexView.{index_bytes, index_groups, index_selection}
use Rattle.blog_trans.specs.code.BuilderView.{placed_changes, placed_tables}
use Rattle.blog_trans.specs.code.TablesView.{table_named, tables_known}
use Rattle.blog_trans.specs.code.CountsView.{counted}
use Rattle.blog_trans.proofs.IndexTables.{many_same, counts_same, many_firsts}
use Rattle.blog_trans.proofs.TableNumbers.{named_at}
use Rattle.blog_trans.proofs.groups.Index.table.Goals as goal

pub table-number-requires : goal.table-number-requires
table-number-requires g c = grind (arith, many_firsts, many_same)

pub unreachable-requires : goal.unreachable-requires
unreachable-requires g c =
    let x = c.args.self.now in
    let told = c.table-number.ensures (tables_known x.layouts) (placed_changes (index_groups x)) (placed_tables (index_groups x)) x.tallied in
    none-some told.0 (sym (named_at x.layouts c.table-number.result.0 None (sym c.in_default.ensures.entry)) ∙ told.1)

pub returns : goal.returns
returns g c =
    let x = c.args.self.now in
    let told = c.table-number.ensures (tables_known x.layouts) (placed_changes (index_groups x)) (placed_tables (index_groups x)) x.tallied in
    let name = table_named c.in-Some.name.now in
    let named : name ≡ told.0 = same_Some name told.0 (sym (named_at x.layouts c.table-number.result.0 (Some (c.in-Some.name.now, c.in-Some.field-0-1.now)) (sym c.in-Some.ensures.entry)) ∙ told.1) in
    counts_same (index_bytes x) (index_selection x) c.args.n (counted name (Some c.table-number.result.1))
    (told.2 ∙ ap (λ t. Some (counted t (Some c.table-number.result.1))) (sym named))
