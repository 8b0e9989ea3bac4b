use Rattle.std.proofs.Common.{◌≡◌, ◌++◌, List, ℕ, Option, length}
use Rattle.std.specs.Option.{option_or}
use Rattle.std.specs.Vec.Iter.{into_iter_items, into_iter_len}
use Rattle.blog_device.specs.Watched.{device_of}
use Rattle.blog_sum.specs.declared.fault.SumFault.{SumFault}
use Rattle.show_run.specs.Shown.{ShowsGiven}
use Rattle.show_run.specs.code.Turns.{showing_of}
use Rattle.show_run.proofs.shown.show_logs.Given as goal

-- before the first log is shown nothing is written; and what shows the logs that are left ends what shows all
abbrev pub invariant-logs : goal.invariant-logs
invariant-logs g l = record {
  first : l.turn.n ≡ 0 → l.writer ≡ l.fn.writer;
  number : l.turn.n ≡ length l.yielded;
  rest : l.yielded ++ into_iter_items l.given-iterator ≡ l.fn.logs.items;
  left : length (into_iter_items l.given-iterator) ≡ into_iter_len l.given-iterator;
  showing : showing_of l.turn ≡ showing_of l.initial.turn;
  shown : (later : Option (ℕ × SumFault)) (has : Option (List ℕ))
      → ShowsGiven g.R.Read.remaining l.style.form (showing_of l.turn) l.turn.n (into_iter_items l.given-iterator) later (g.W.Write.contents (device_of l.writer)) has
      → ShowsGiven g.R.Read.remaining l.style.form (showing_of l.turn) 0 l.fn.logs.items (option_or l.end later) (g.W.Write.contents (device_of l.fn.writer)) has;
}
