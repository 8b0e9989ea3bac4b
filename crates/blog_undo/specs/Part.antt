-- The part of the selected changes that can be undone while the rest is left.
use Rattle.std.specs.Prelude.{◌≡◌, ◌<◌, ℕ, true, false, ◌&&◌, List, [], ◌∷◌, Some, slice_get}
use Rattle.std.specs.List.{AllZip}
use Rattle.blog_trans.specs.Changes.{Change}
use Rattle.blog_undo.specs.Mixed.{Marked, is_left_alone, is_untouched, touches}

-- From the last change to the first, a selected change is kept if no change after it touches it but kept ones. In the result,
-- the selected changes are the kept ones. They are the part; all other changes are outside of it.
abbrev pub untouched_part : List Marked → List Marked
untouched_part [] = []
untouched_part (m ∷ ms) = let part = untouched_part ms in record m { selected = m.selected && is_left_alone m.change part } ∷ part

-- ---- what the part is

-- the same change, selected only if the other is
pub record IsSelectedWithin (n m : Marked) : Type 0 where
  pub same : n.change ≡ m.change
  pub within : n.selected ≡ true → m.selected ≡ true

-- the same changes, and each that the first list selects is selected in the second
abbrev pub SelectsWithin : List Marked → List Marked → Type 0
SelectsWithin ns ms = AllZip IsSelectedWithin ns ms

-- of all ways to select only selected changes so that no other change touches them, the one that selects the most
pub record IsGreatestPart (ms part : List Marked) : Type 0 where
  pub within : SelectsWithin part ms
  pub untouched : is_untouched part ≡ true
  pub greatest : (ns : List Marked) → SelectsWithin ns ms → is_untouched ns ≡ true → SelectsWithin ns part

-- ---- why a change is outside of it

-- a change outside of the part, after the place i, touches a change
pub record IsTouchedAfter (part : List Marked) (i : ℕ) (change : Change) : Type 0 where
  pub place : ℕ
  pub after : i < place
  pub other : Marked
  pub there : slice_get part place ≡ Some other
  pub outside : other.selected ≡ false
  pub touched : touches other.change change ≡ true

-- each selected change that isn't kept is touched by one after it that is outside of the part
abbrev pub LeavesOutTouched : List Marked → List Marked → Type 0
LeavesOutTouched ms part = (i : ℕ) (m n : Marked) → slice_get ms i ≡ Some m → m.selected ≡ true → slice_get part i ≡ Some n → n.selected ≡ false
    → IsTouchedAfter part i m.change
