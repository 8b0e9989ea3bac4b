use Rattle.std.specs.Prelude.{nat_eq}
use Rattle.std.proofs.Common.{ap, ◌∙◌}
use Rattle.indexmap.specs.IndexMap.{insert_entry}
use Rattle.blog_report.specs.declared.sums.RowSums.{RowSums}
use Rattle.blog_report.specs.Sums.{plus}
use Rattle.blog_report.proofs.AllRows.{inserted}
use Rattle.blog_report.proofs.cells.add_cell.Goals as goal

pub returns : goal.returns
returns g c =
    c.in_ok-insert.ensures.entries
    ∙ ap (insert_entry nat_eq c.args.cells.now.entries c.args.key) (c.plus.ensures ∙ ap (λ (s : RowSums). plus s c.args.rows) c.rows_at-had.ensures)
    ∙ inserted nat_eq c.args.cells.now.entries c.args.key c.args.rows
