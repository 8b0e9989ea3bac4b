use Rattle.std.proofs.Common.{ℕ, List, length, map, ap, ◌∙◌}
use Rattle.blog_choice.specs.code.Views.{choice_value}
use Rattle.blog_event.specs.code.LogView.{log_bytes}
use Rattle.blog_list.specs.Shown.{wanted_of as wanted_among}
use Rattle.blog_list.specs.code.Told.{source_place}
use Rattle.blog_report.specs.Sums.{at_most}
use Rattle.blog_report.specs.code.ReportView.{said_of}
use Rattle.blog_request.specs.declared.wanted.Wanted.{Wanted}
use Rattle.blog_source.specs.code.SourceView.{log_of}
use Rattle.blog_units.specs.Units.{facts_of, units}
use Rattle.show_run.specs.Reported.{with_units}
use Rattle.show_run.proofs.Ending.{source-end}
use Rattle.show_run.proofs.source_report.report_source.Goals as goal

pub returns-clause-said : goal.returns-clause-said
returns-clause-said g c = record {
  is = c.in_ok-units.ensures.said.is
      ∙ ap (λ (b : List ℕ). with_units c.args.number (source_place c.args.source.now) b (choice_value c.wanted_inside-inside.result.choice) (wanted_among c.wanted_inside-inside.result b (map facts_of (units b))) (said_of c.args.report.now))
      c.in-Ok.ensures.bytes
      ∙ ap (λ (w : Wanted). with_units c.args.number (source_place c.args.source.now) (log_of c.args.source.now) (choice_value w.choice) (wanted_among w (log_of c.args.source.now) (map facts_of (units (log_of c.args.source.now)))) (said_of c.args.report.now))
      c.wanted_inside-inside.ensures;
  whole = c.in_ok-units.ensures.said.whole;
}

pub returns-clause-units : goal.returns-clause-units
returns-clause-units g c =
    c.in_ok-units.ensures.units
    ∙ ap (λ (b : List ℕ). at_most (length (wanted_among c.wanted_inside-inside.result b (map facts_of (units b))))) c.in-Ok.ensures.bytes
    ∙ ap (λ (w : Wanted). at_most (length (wanted_among w (log_of c.args.source.now) (map facts_of (units (log_of c.args.source.now)))))) c.wanted_inside-inside.ensures

pub returns-clause-end : goal.returns-clause-end
returns-clause-end g c =
    source-end c.args.source.now c.args.asked.now.wanted c.wanted_inside-inside.result (log_bytes c.in-Ok.log) _ _ c.in-Ok.ensures.bytes c.wanted_inside-inside.ensures c.in_ok-units.ensures.end c.log_end-end.ensures
