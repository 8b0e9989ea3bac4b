use Rattle.std.proofs.Common.{◌≡◌, ℕ, subst}
use Rattle.std.specs.Prelude.{IfOk, option_map}
use Rattle.blog_text.specs.code.Counted.{counts_in}
use Rattle.undo_run.specs.Reports.{report}
use Rattle.undo_run.specs.code.NamesView.{names_told}
use Rattle.undo_run.specs.code.SinceView.{since_seen}
use Rattle.undo_run.proofs.reports.report_of.Goals as goal

pub returns : goal.returns
returns g c =
    subst (λ (n : ℕ). IfOk c.report_of_many.result (λ told. told.items ≡ report c.args.order (names_told c.args.logs.now) n (counts_in c.args.index.now) (option_map since_seen c.args.since.now)))
    c.transactions.ensures c.report_of_many.ensures
