-- What is promised of a merge.
use Rattle.std.specs.Prelude.{◌≡◌, ℕ, Bool, true, not, if◌then◌else◌, List, [], ◌∷◌, ◌++◌, Option, Some, None, length, slice_get}
use Rattle.std.specs.List.{list_all}
use Rattle.blog_row.specs.Image.{Row}
use Rattle.blog_flash.specs.States.{State, apply_all, inverse_all, is_same_value}
use Rattle.blog_undo.specs.Mixed.{Marked, TableRow, all_changes, is_same_row, is_untouched, selected_changes}
use Rattle.blog_undo.specs.Part.{SelectsWithin, untouched_part}
use Rattle.blog_untouched.specs.ByPrints.{part_by}
use Rattle.blog_merge.specs.Merge.{has_no_selected_delete, pairs_of, rebased, staying, updates_of}
use Rattle.blog_merge.specs.Pairs.{Pair, real_row, real_rows, with_rows, would_row, would_rows}

-- ---- what pairs are

-- The tables as they are, and as the rebased changes make them, differ in the rows of the pairs alone: they are the same state with
-- the real rows, and with the rows that would be there.
pub record IsDifference (ms : List Marked) (before after : State) : Type 0 where
  pub rest : State
  pub real : after ≡ with_rows (real_rows (pairs_of ms)) rest
  pub would : apply_all (rebased ms) before ≡ Some (with_rows (would_rows (pairs_of ms)) rest)

-- from every state on which all changes apply, if no selected one is a delete
abbrev pub Differs : List Marked → Type 0
Differs ms = (before after : State) → has_no_selected_delete ms ≡ true → apply_all (all_changes ms) before ≡ Some after → IsDifference ms before after

-- ---- the updates

-- The rebased changes lead from the first state to one, without a fault, to which the updates lead from the last state, except that
-- the rows that stay are there too.
pub record IsMerged (ms : List Marked) (before after : State) : Type 0 where
  pub alone : State
  pub others : apply_all (rebased ms) before ≡ Some alone
  pub updated : apply_all (updates_of (pairs_of ms)) after ≡ Some (with_rows (staying (pairs_of ms)) alone)

-- from every such state
abbrev pub Merges : List Marked → Type 0
Merges ms = (before after : State) → has_no_selected_delete ms ≡ true → apply_all (all_changes ms) before ≡ Some after → IsMerged ms before after

-- ---- with a part that is undone

-- the changes of a list that a part of it doesn't select
abbrev pub outside_of : List Marked → List Marked → List Marked
outside_of (p ∷ part) (m ∷ ms) = if p.selected then outside_of part ms else m ∷ outside_of part ms
outside_of [] ms = []
outside_of (p ∷ part) [] = []

-- the same, if a part is undone first, and then the changes outside of it are merged
pub record IsUndoneAndMerged (ms part : List Marked) (before after : State) : Type 0 where
  pub alone : State
  pub others : apply_all (rebased (outside_of part ms)) before ≡ Some alone
  pub done : apply_all (inverse_all (selected_changes part) ++ updates_of (pairs_of (outside_of part ms))) after
      ≡ Some (with_rows (staying (pairs_of (outside_of part ms))) alone)

-- From every state on which all changes apply: for a part of the selected changes that no other change touches, if no selected
-- change outside of it is a delete.
abbrev pub UndoesAndMerges : List Marked → List Marked → Type 0
UndoesAndMerges ms part = (before after : State) → SelectsWithin part ms → is_untouched part ≡ true → has_no_selected_delete (outside_of part ms) ≡ true
    → apply_all (all_changes ms) before ≡ Some after → IsUndoneAndMerged ms part before after

-- the same for the greatest such part, without a premise
abbrev pub UndoesAndMergesAll : List Marked → Type 0
UndoesAndMergesAll ms = (before after : State) → apply_all (all_changes ms) before ≡ Some after → IsUndoneAndMerged ms (untouched_part ms) before after

-- the same for the part that is found by fingerprints of rows
abbrev pub UndoesAndMergesBy : (TableRow → ℕ) → List Marked → Type 0
UndoesAndMergesBy f ms = (before after : State) → apply_all (all_changes ms) before ≡ Some after → IsUndoneAndMerged ms (part_by f ms) before after

-- ---- pairs

-- the rows of each pair differ
abbrev pub all_differ : List Pair → Bool
all_differ ps = list_all (λ p. not (is_same_row (would_row p) (Some (real_row p)))) ps

-- without a selected change there is no difference
pub record HasNoDifference (ms : List Marked) : Type 0 where
  pub pairs : pairs_of ms ≡ []
  pub others : rebased ms ≡ all_changes ms

abbrev pub none_selected : List Marked → Bool
none_selected ms = list_all (λ m. not m.selected) ms

-- ---- an update made to another row

-- The row has the columns of the update's row. Where the update leaves the value, the other row's is kept, else the new one comes.
-- A column that the row before or the other row doesn't have is the update's.
pub record IsMergedRow (before after other row : Row) : Type 0 where
  pub columns : length row ≡ length after
  pub value : (i : ℕ) (a b c : Option (List ℕ)) → slice_get before i ≡ Some a → slice_get after i ≡ Some b → slice_get other i ≡ Some c
      → slice_get row i ≡ Some (if is_same_value a b then c else b)
  pub new : (i : ℕ) → slice_get before i ≡ None → slice_get row i ≡ slice_get after i
  pub missing : (i : ℕ) → slice_get other i ≡ None → slice_get row i ≡ slice_get after i
