use Rattle.std.proofs.Common.{◌≡◌, drop}
use Rattle.blog_choice.specs.code.Views.{choice_value}
use Rattle.blog_report.specs.Sums.{none}
use Rattle.blog_report.specs.code.ReportView.{IsWhole, said_of}
use Rattle.blog_trans.specs.Changes.{counts_of}
use Rattle.blog_trans.specs.Groups.{groups}
use Rattle.blog_trans.specs.code.IndexView.{index_bytes, index_selection}
use Rattle.show_run.specs.Reported.{chosen, with_tables}
use Rattle.show_run.proofs.Reporting.{rows_on}
use Rattle.show_run.proofs.source_report.add_tables.Given as goal

-- the tables are left from number n on
abbrev pub invariant-loop-n : goal.invariant-loop-n
invariant-loop-n g l = record {
  is : with_tables (chosen (choice_value l.choice) (drop l.n (counts_of (groups (index_bytes l.index) (index_selection l.index))))) (said_of l.report)
      ≡ with_tables (chosen (choice_value l.choice) (counts_of (groups (index_bytes l.index) (index_selection l.index)))) (said_of l.fn.report);
  whole : IsWhole l.fn.report → IsWhole l.report;
  sum_is : rows_on l.rows (chosen (choice_value l.choice) (drop l.n (counts_of (groups (index_bytes l.index) (index_selection l.index)))))
      ≡ rows_on none (chosen (choice_value l.choice) (counts_of (groups (index_bytes l.index) (index_selection l.index))));
}
