-- What is promised of an undo, by what came after.
use Rattle.std.specs.Prelude.{◌≡◌, true, List, Some}
use Rattle.blog_flash.specs.States.{State, apply_all, inverse_all}
use Rattle.blog_undo.specs.Mixed.{Marked, all_changes, is_untouched, other_changes, selected_changes}

-- The tables are as if the selected changes had never been made, and the others had: the others lead from the first state to
-- the same state, without a fault, to which the inverse of the selected ones leads from the last. And from there the selected
-- ones lead back.
pub record AsIfNever (ms : List Marked) (before after : State) : Type 0 where
  pub alone : State
  pub others : apply_all (other_changes ms) before ≡ Some alone
  pub undone : apply_all (inverse_all (selected_changes ms)) after ≡ Some alone
  pub redone : apply_all (selected_changes ms) alone ≡ Some after

-- From every state on which all changes apply, if none of the others touches a selected one.
abbrev pub TakesBack : List Marked → Type 0
TakesBack ms = (before after : State) → is_untouched ms ≡ true → apply_all (all_changes ms) before ≡ Some after → AsIfNever ms before after
