use Rattle.std.proofs.Common.{ap, ◌∙◌}
use Rattle.indexmap.specs.IndexMap.{insert_entry}
use Rattle.blog_report.specs.declared.sums.RowSums.{RowSums}
use Rattle.blog_report.specs.Sums.{plus}
use Rattle.blog_report.specs.code.TablesView.{same_key}
use Rattle.blog_report.proofs.AllRows.{inserted}
use Rattle.blog_report.proofs.tables.Tables.add.Goals as goal

pub returns : goal.returns
returns g c = (
  c.in_ok-key.key,
  c.in_ok-key.ensures,
  c.in_ok-number.ensures.entries
      ∙ ap (insert_entry same_key c.args.self.now.sums.entries c.in_ok-key.key) (c.plus.ensures ∙ ap (λ (s : RowSums). plus s c.args.rows.now.rows) c.rows_at-had.ensures)
      ∙ inserted same_key c.args.self.now.sums.entries c.in_ok-key.key c.args.rows.now.rows,
)
