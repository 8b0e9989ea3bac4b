-- Changes in their order, of which some are selected: what is undone, among and before what others changed.
use Rattle.std.specs.Prelude.{Bool, true, false, not, ◌&&◌, ◌||◌, List, [], ◌∷◌, map, filter, Option, Some, None}
use Rattle.std.specs.List.{list_all}
use Rattle.blog_row.specs.Image.{Row}
use Rattle.blog_row.specs.TableMap.{Table}
use Rattle.blog_trans.specs.Changes.{Change, Inserted, Deleted, Updated}
use Rattle.blog_flash.specs.States.{is_row}

-- a change, and whether it is selected
pub record Marked : Type 0 where
  pub change : Change
  pub selected : Bool

-- the changes that are selected, in their order
abbrev pub selected_changes : List Marked → List Change
selected_changes ms = map (λ m. m.change) (filter (λ m. m.selected) ms)

-- and the others
abbrev pub other_changes : List Marked → List Change
other_changes ms = map (λ m. m.change) (filter (λ m. not m.selected) ms)

abbrev pub all_changes : List Marked → List Change
all_changes ms = map (λ m. m.change) ms

-- ---- rows that a change takes and leaves

-- a row of a table
pub record TableRow : Type 0 where
  pub table : Table
  pub row : Row

-- the row that is there before a change and is taken away by it
abbrev pub takes : Change → Option TableRow
takes (Inserted t r) = None
takes (Deleted t r) = Some (record { table = t; row = r })
takes (Updated t before after) = Some (record { table = t; row = before })

-- the row that is there after a change and was put there by it
abbrev pub leaves : Change → Option TableRow
leaves (Inserted t r) = Some (record { table = t; row = r })
leaves (Deleted t r) = None
leaves (Updated t before after) = Some (record { table = t; row = after })

abbrev pub is_same_row : Option TableRow → Option TableRow → Bool
is_same_row (Some r) (Some s) = is_row r.table r.row s.table s.row
is_same_row _ _ = false

-- a change touches one before it: the row that it takes equals the one that was left, in the same table
abbrev pub touches : Change → Change → Bool
touches later change = is_same_row (takes later) (leaves change)

-- ---- untouched

-- a change is touched by none of the changes after it but selected ones
abbrev pub is_left_alone : Change → List Marked → Bool
is_left_alone change later = list_all (λ m. m.selected || not (touches m.change change)) later

-- no change that isn't selected touches a selected one before it
abbrev pub is_untouched : List Marked → Bool
is_untouched [] = true
is_untouched (m ∷ ms) = (not m.selected || is_left_alone m.change ms) && is_untouched ms
