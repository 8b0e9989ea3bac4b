use Rattle.std.proofs.Common.{◌∙◌}
use Rattle.blog_trans.specs.code.TablesView.{tables_known}
use Rattle.blog_trans.specs.code.IndexView.{index_bytes, index_groups, index_selection}
use Rattle.blog_trans.specs.code.BuilderView.{placed_changes, placed_tables}
use Rattle.blog_trans.proofs.IndexTables.{many_same}
use Rattle.blog_trans.proofs.groups.Index.tables.Goals as goal

pub returns : goal.returns
returns g c =
    let x = c.args.self.now in
    c.len.ensures (tables_known x.layouts) (placed_changes (index_groups x)) (placed_tables (index_groups x)) x.tallied ∙ many_same (index_bytes x) (index_selection x)
