-- A column that no change of others changes: its values after a merge.
use Rattle.std.specs.Prelude.{◌≡◌, ◌<◌, ◌⊎◌, ℕ, List, ⊤, length, Option, Some, slice_get}
use Rattle.blog_row.specs.Image.{Row}
use Rattle.blog_row.specs.TableMap.{Table}
use Rattle.blog_trans.specs.Changes.{Change, Inserted, Deleted, Updated}
use Rattle.blog_flash.specs.States.{State, apply_all}
use Rattle.blog_undo.specs.Mixed.{Marked, other_changes}
use Rattle.blog_merge.specs.Merge.{rebased}

-- the value of column i in some row of the table: one of the first state, or one that others inserted
pub record IsFrom (ms : List Marked) (before : State) (t : Table) (i : ℕ) (value : Option (List ℕ)) : Type 0 where
  pub row : Row
  pub there : slice_get row i ≡ Some value
  pub origin : (0 < before t row) ⊎ ((place : ℕ) × (slice_get (other_changes ms) place ≡ Some (Inserted t row)))

-- each row of the table has column i with such a value
abbrev pub IsRestored : List Marked → State → Table → ℕ → State → Type 0
IsRestored ms before t i alone = (r : Row) → 0 < alone t r → (value : Option (List ℕ)) × (slice_get r i ≡ Some value) × IsFrom ms before t i value

-- an insert into the table has column i, and an update of it leaves the value there
abbrev pub LeavesColumn : Table → ℕ → Change → Type 0
LeavesColumn t i (Inserted u r) = u ≡ t → i < length r
LeavesColumn t i (Deleted u r) = ⊤
LeavesColumn t i (Updated u r s) = u ≡ t → (value : Option (List ℕ)) × (slice_get r i ≡ Some value) × (slice_get s i ≡ Some value)

-- From every state whose rows of the table have the column: if each change of others leaves it, then after the rebased changes no row
-- has a value there that only a selected change put there.
abbrev pub RestoresColumns : List Marked → Type 0
RestoresColumns ms = (t : Table) (i : ℕ) (before alone : State)
    → ((r : Row) → 0 < before t r → i < length r)
    → ((place : ℕ) (c : Change) → slice_get (other_changes ms) place ≡ Some c → LeavesColumn t i c)
    → apply_all (rebased ms) before ≡ Some alone → IsRestored ms before t i alone
