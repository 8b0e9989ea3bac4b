use Rattle.std.proofs.Common.{ap, ◌∙◌}
use Rattle.std.specs.Hash.FoldHasher.{finish}
use Rattle.blog_later.specs.Prints.{with_values}
use Rattle.blog_row.specs.Image.{row_of}
use Rattle.blog_pairs.specs.code.ColumnsView.{columns_told}
use Rattle.blog_pairs.proofs.changed.ChangedTable.print.Goals as goal

pub returns : goal.returns
returns c = λ t e.
    c.print_of.ensures ∙ ap (λ l. finish (with_values c.args.self.now.hasher (row_of l c.args.image.now))) c.args.self.now.columns.same
    ∙ ap (λ h. finish (with_values h (row_of (columns_told c.args.self.now.columns) c.args.image.now))) e
