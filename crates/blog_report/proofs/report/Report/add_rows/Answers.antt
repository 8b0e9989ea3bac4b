use Rattle.std.specs.Prelude.{nat_eq}
use Rattle.std.specs.Cmp.Lexicographic.{pointwise}
use Rattle.std.proofs.Common.{◌≡◌, ℕ, List, map, ap, sym, ◌∙◌}
use Rattle.blog_report.specs.declared.sums.RowSums.{RowSums}
use Rattle.blog_report.specs.Cells.{added_at, all_rows}
use Rattle.blog_report.specs.Sums.{plus}
use Rattle.blog_report.specs.code.ReportView.{named_rows}
use Rattle.blog_report.specs.code.TablesView.{same_key}
use Rattle.blog_report.proofs.AllRows.{all_added}
use Rattle.blog_report.proofs.Naming.{named-added}
use Rattle.blog_report.proofs.report.Report.add_rows.Goals as goal

pub returns-clause-whole : goal.returns-clause-whole
returns-clause-whole g c =
    let rows : RowSums = c.args.rows.now.rows in
    let (key, is, entries) = c.in_ok-table.ensures in
    λ whole. (
      c.in_ok-add.ensures ∙ ap (λ (s : RowSums). plus s rows) whole.0 ∙ sym c.plus-self.ensures,
      ap all_rows entries ∙ all_added same_key c.args.self.now.tables.sums.entries key rows ∙ ap (λ (s : RowSums). plus s rows) whole.1 ∙ sym c.plus-self.ensures,
    )

pub returns-clause-said : goal.returns-clause-said
returns-clause-said g c =
    let rows : RowSums = c.args.rows.now.rows in
    let (key, is, entries) = c.in_ok-table.ensures in
    let old = c.args.self.now.tables.sums.entries in
    let tables = ap named_rows entries ∙ named-added old key rows ∙ ap (λ (k : List ℕ). added_at (pointwise nat_eq) (named_rows old) k rows) is in
    λ j. record {
      units = c.args.self.now.totals.units;
      refused = c.args.self.now.totals.refused;
      rows = c.plus-self.ensures j;
      tables = tables j;
      largest = c.args.self.now.largest.ranked.items;
      longest = c.args.self.now.longest.ranked.items;
      first_refused = map (λ r. r.unit) c.args.self.now.refused.items;
    }
