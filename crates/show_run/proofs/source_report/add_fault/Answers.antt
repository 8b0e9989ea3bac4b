use Rattle.std.proofs.Common.{ap, ◌∙◌}
use Rattle.blog_report.specs.Said.{with_refusal}
use Rattle.blog_report.specs.code.ReportView.{said_of}
use Rattle.blog_report.specs.declared.facts.UnitFact.{UnitFact}
use Rattle.show_run.proofs.source_report.add_fault.Goals as goal

pub returns : goal.returns
returns g c = record {
  is = c.in_ok-add_refused.ensures.said ∙ ap (λ (u : UnitFact). with_refusal u (said_of c.args.report.now)) c.fact_of.ensures;
  whole = c.in_ok-add_refused.ensures.whole;
}
