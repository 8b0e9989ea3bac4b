use Rattle.std.proofs.Common.{◌≡◌, ◌++◌, ℕ, Option, length}
use Rattle.std.specs.Option.{option_or}
use Rattle.std.specs.Vec.Iter.{into_iter_items, into_iter_len}
use Rattle.blog_report.specs.Said.{Said}
use Rattle.blog_report.specs.Sums.{at_most}
use Rattle.blog_report.specs.code.ReportView.{IsWhole, said_of}
use Rattle.blog_sum.specs.declared.fault.SumFault.{SumFault}
use Rattle.show_run.specs.Shown.{listing_in}
use Rattle.show_run.specs.code.Becomes.{Reports}
use Rattle.show_run.specs.code.Turns.{showing_of}
use Rattle.show_run.proofs.reported.report_logs.Given as goal

-- which log it is, of how many; and what adds the logs that are left ends what adds all
abbrev pub invariant-logs : goal.invariant-logs
invariant-logs g l = record {
  number : l.turn.n ≡ length l.yielded;
  rest : l.yielded ++ into_iter_items l.given-iterator ≡ l.fn.logs.items;
  left : length (into_iter_items l.given-iterator) ≡ into_iter_len l.given-iterator;
  count : l.turn.count ≡ length l.fn.logs.items;
  showing : showing_of l.turn ≡ showing_of l.initial.turn;
  adds_up : IsWhole l.report;
  fits : at_most l.units ≡ l.units;
  going : (later : Option (ℕ × SumFault)) (count : ℕ) (said : Said)
      → Reports g.R.Read.remaining (listing_in (showing_of l.turn)) l.turn.n (into_iter_items l.given-iterator) later l.units count (said_of l.report) said
      → Reports g.R.Read.remaining (listing_in (showing_of l.turn)) 0 l.fn.logs.items (option_or l.end later) 0 count (said_of l.initial.report) said;
}
