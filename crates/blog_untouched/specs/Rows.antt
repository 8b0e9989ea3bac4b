-- Rows by their fingerprints, and which change takes one.
use Rattle.std.specs.Prelude.{◌≡◌, ◌<◌, ◌≤◌, ◌+◌, ℕ, Bool, false, if◌then◌else◌, List, [], ◌∷◌, ◌++◌, Option, Some, None, slice_get}
use Rattle.blog_untouched.specs.declared.rows.SelectedRow.{SelectedRow}
use Rattle.blog_untouched.specs.declared.rows.SelectedRow.TheVariants.{Inserted, Deleted, Updated}
use Rattle.blog_untouched.specs.declared.rows.TakenRow.{TakenRow}
use Rattle.blog_untouched.specs.declared.rows.Taker.{Taker}
use Rattle.blog_untouched.specs.declared.rows.Taker.TheVariants.{Selected, Other}
use Rattle.blog_untouched.specs.declared.rows.Touched.{Touched}

-- the fingerprint of the row that a selected change took
abbrev pub print_taken : SelectedRow → Option ℕ
print_taken (Inserted left) = None
print_taken (Deleted taken) = Some taken
print_taken (Updated taken left) = Some taken

-- the fingerprint of the row that it left
abbrev pub print_left : SelectedRow → Option ℕ
print_left (Inserted left) = Some left
print_left (Deleted taken) = None
print_left (Updated taken left) = Some left

-- The change takes a row with this fingerprint, at least `after` selected changes come before it, and it isn't kept: marks says which selected ones are.
abbrev pub Takes : List SelectedRow → List TakenRow → List Bool → ℕ → ℕ → Taker → Type 0
Takes rows taken marks after print (Selected n) = (row : SelectedRow) × (slice_get rows n ≡ Some row) × (print_taken row ≡ Some print) × (slice_get marks n ≡ Some false) × (after ≤ n)
Takes rows taken marks after print (Other n) = (row : TakenRow) × (slice_get taken n ≡ Some row) × (row.print ≡ print) × (after ≤ row.before)

-- the selected change left a row with a fingerprint, and the change that is named comes after it, takes a row with this fingerprint, and isn't kept
pub record IsTouched (rows : List SelectedRow) (taken : List TakenRow) (marks : List Bool) (touched : Touched) : Type 0 where
  pub row : SelectedRow
  pub there : slice_get rows touched.row ≡ Some row
  pub print : ℕ
  pub left : print_left row ≡ Some print
  pub by_taker : Takes rows taken marks (touched.row + 1) print touched.by

-- the numbers of the changes that aren't kept, from the last to the first, where the first has the number n
abbrev pub left_out : ℕ → List Bool → List ℕ
left_out n [] = []
left_out n (kept ∷ marks) = left_out (n + 1) marks ++ (if kept then [] else n ∷ [])

-- of two changes that take rows, the first comes before the second or is the same
abbrev pub IsNoLater : List TakenRow → Taker → Taker → Type 0
IsNoLater taken (Selected m) (Selected n) = m ≤ n
IsNoLater taken (Selected m) (Other n) = (row : TakenRow) → slice_get taken n ≡ Some row → m < row.before
IsNoLater taken (Other m) (Selected n) = (row : TakenRow) → slice_get taken m ≡ Some row → row.before ≤ n
IsNoLater taken (Other m) (Other n) = m ≤ n

-- of the changes after the selected one that take such a row and aren't kept, none comes before the one that is named
abbrev pub IsNext : List SelectedRow → List TakenRow → List Bool → Touched → Type 0
IsNext rows taken marks touched = (row : SelectedRow) (print : ℕ) (t : Taker) → slice_get rows touched.row ≡ Some row → print_left row ≡ Some print
    → Takes rows taken marks (touched.row + 1) print t → IsNoLater taken touched.by t
