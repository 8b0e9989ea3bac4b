use Rattle.std.proofs.Common.{◌-◌, ◌∙◌, arith}
use Rattle.blog_trans.specs.code.IndexView.{index_groups, placed}
use Rattle.show_run.proofs.Reporting.{last-seconds, no-seconds}
use Rattle.show_run.proofs.source_report.seconds_of.Goals as goal

pub returns-in-Some : goal.returns-in-Some
returns-in-Some g c =
    c.saturating_sub.ensures
    ∙ last-seconds c.args.time (index_groups c.args.index.now) c.in-Some.last (placed c.end.result) (omega (arith, c.in-Some.ensures, c.transactions.ensures)) c.end.ensures.event

pub returns-in-None : goal.returns-in-None
returns-in-None g c = no-seconds c.args.time (index_groups c.args.index.now) (omega (arith, c.in-None.ensures, c.transactions.ensures))
