use Rattle.std.proofs.Common.{◌≡◌, ◌+◌, length, map}
use Rattle.blog_choice.specs.code.Views.{choice_value}
use Rattle.blog_event.specs.code.LogView.{log_bytes}
use Rattle.blog_list.specs.Shown.{last_whole, wanted_of as wanted_among}
use Rattle.blog_list.specs.code.Told.{source_place}
use Rattle.blog_report.specs.Sums.{at_most}
use Rattle.blog_report.specs.code.ReportView.{IsWhole, said_of}
use Rattle.blog_units.specs.Units.{facts_of, units}
use Rattle.blog_units.specs.code.UnitsView.{units_left, units_log}
use Rattle.show_run.specs.Reported.{with_units}
use Rattle.show_run.proofs.Ending.{ending}
use Rattle.show_run.proofs.source_report.report_units.Given as goal

-- what adds the units that are left ends what adds all
abbrev pub invariant-loop-unit : goal.invariant-loop-unit
invariant-loop-unit g l = record {
  ends : ending l.whole l.wanted.stop (units_left l.unit-iterator) ≡ last_whole l.wanted.stop (map facts_of (units (log_bytes l.log)));
  next : (goal.iterator-loop-unit g).can_next l.unit-iterator;
  finite : (goal.iterator-loop-unit g).is_finite l.unit-iterator;
  same : units_log l.unit-iterator ≡ l.log;
  is : with_units l.number (source_place l.source) (log_bytes l.log) (choice_value l.wanted.choice) (wanted_among l.wanted (log_bytes l.log) (units_left l.unit-iterator)) (said_of l.report)
      ≡ with_units l.number (source_place l.source) (log_bytes l.log) (choice_value l.wanted.choice) (wanted_among l.wanted (log_bytes l.log) (map facts_of (units (log_bytes l.log)))) (said_of l.fn.report);
  adds_up : IsWhole l.fn.report → IsWhole l.report;
  count : at_most (l.units + length (wanted_among l.wanted (log_bytes l.log) (units_left l.unit-iterator)))
      ≡ at_most (length (wanted_among l.wanted (log_bytes l.log) (map facts_of (units (log_bytes l.log)))));
  fits : at_most l.units ≡ l.units;
}
