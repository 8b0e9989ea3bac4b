-- What is promised of the part by fingerprints.
use Rattle.std.specs.Prelude.{◌≡◌, ◌<◌, ℕ, true, false, List, Some, slice_get}
use Rattle.blog_trans.specs.Changes.{Change}
use Rattle.blog_flash.specs.States.{State, apply_all}
use Rattle.blog_undo.specs.Laws.{AsIfNever}
use Rattle.blog_undo.specs.Mixed.{Marked, TableRow, all_changes, is_untouched, leaves, takes}
use Rattle.blog_undo.specs.Part.{SelectsWithin}
use Rattle.blog_untouched.specs.ByPrints.{touches_by_print}

-- The part has selected changes only, no change outside of it touches one of it, and it can be undone: from every state on which all
-- changes apply, the tables are then as if only the others had been made.
pub record IsUndoable (ms part : List Marked) : Type 0 where
  pub within : SelectsWithin part ms
  pub untouched : is_untouched part ≡ true
  pub taken_back : (before after : State) → apply_all (all_changes ms) before ≡ Some after → AsIfNever part before after

-- a row that one of the changes takes has the fingerprint of one that another leaves only if they are the same row
abbrev pub TellsApart : (TableRow → ℕ) → List Marked → Type 0
TellsApart f ms = (i k : ℕ) (m n : Marked) (taken left : TableRow) → slice_get ms i ≡ Some m → slice_get ms k ≡ Some n → takes m.change ≡ Some taken → leaves n.change ≡ Some left
    → f taken ≡ f left → taken ≡ left

-- a change outside of a part, after the place i, touches a change by fingerprints
pub record IsTouchedByPrint (f : TableRow → ℕ) (part : List Marked) (i : ℕ) (change : Change) : Type 0 where
  pub place : ℕ
  pub after : i < place
  pub other : Marked
  pub there : slice_get part place ≡ Some other
  pub outside : other.selected ≡ false
  pub touched : touches_by_print f other.change change ≡ true

-- each selected change that isn't kept is touched so
abbrev pub LeavesOutTouchedBy : (TableRow → ℕ) → List Marked → List Marked → Type 0
LeavesOutTouchedBy f ms part = (i : ℕ) (m n : Marked) → slice_get ms i ≡ Some m → m.selected ≡ true → slice_get part i ≡ Some n → n.selected ≡ false
    → IsTouchedByPrint f part i m.change
