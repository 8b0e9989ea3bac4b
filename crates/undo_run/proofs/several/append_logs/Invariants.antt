use Rattle.std.proofs.Common.{◌≡◌, ◌+◌, ◌++◌, length}
use Rattle.std.specs.Vec.Iter.{into_iter_items, into_iter_len}
use Rattle.undo_run.specs.Several.{Joined}
use Rattle.undo_run.specs.code.Reading.{IsJoined}
use Rattle.undo_run.proofs.Joining.{AreJoining}
use Rattle.undo_run.proofs.several.append_logs.Given as goal

-- the logs so far are read behind the first
abbrev pub invariant-logs : goal.invariant-logs
invariant-logs g l = record {
  number : l.n ≡ 1 + length l.yielded;
  rest : l.yielded ++ into_iter_items l.given-iterator ≡ l.fn.more.items;
  left : length (into_iter_items l.given-iterator) ≡ into_iter_len l.given-iterator;
  joining : (j : Joined) → IsJoined j l.fn.first → AreJoining g.L.Read.remaining j l.yielded l.logs;
}
