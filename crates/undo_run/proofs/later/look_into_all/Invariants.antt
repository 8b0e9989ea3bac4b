use Rattle.std.proofs.Common.{◌≡◌, ◌++◌, List, ℕ, length}
use Rattle.std.specs.Vec.Iter.{into_iter_items, into_iter_len}
use Rattle.blog_choice.specs.code.ChosenView.{names_choice}
use Rattle.blog_later.specs.code.LookedView.{left_before}
use Rattle.undo_run.specs.After.{Later}
use Rattle.undo_run.specs.code.SinceView.{AreSeen}
use Rattle.undo_run.proofs.InTurn.{AreGoing}
use Rattle.undo_run.proofs.later.look_into_all.Given as goal

-- the logs so far are looked at, and these are they
abbrev pub invariant-logs : goal.invariant-logs
invariant-logs g l = record {
  number : l.n ≡ length l.yielded;
  rest : l.yielded ++ into_iter_items l.given-iterator ≡ l.fn.later.items;
  left : length (into_iter_items l.given-iterator) ≡ into_iter_len l.given-iterator;
  going : (m : ℕ) (ls : List Later) → AreSeen m (names_choice l.names) ls l.fn.since → AreGoing g.L.Read.remaining l.yielded (left_before l.left l.lists) (names_choice l.names) m ls l.records l.fn.tracked l.tracked l.since;
}
