-- What is recorded of changes of which some are selected, by fingerprints of rows.
use Rattle.std.specs.Prelude.{◌≡◌, ℕ, ◌+◌, Bool, if◌then◌else◌, List, [], ◌∷◌, ◌++◌, map, Option, Some, None, nat_eq, option_map}
use Rattle.std.specs.List.{cons_option, list_any}
use Rattle.blog_trans.specs.Changes.{Change, Inserted, Deleted, Updated}
use Rattle.blog_undo.specs.Mixed.{Marked, TableRow, leaves, selected_changes, takes}
use Rattle.blog_untouched.specs.declared.rows.SelectedRow.{SelectedRow}
use Rattle.blog_untouched.specs.declared.rows.SelectedRow.TheVariants as row
use Rattle.blog_untouched.specs.declared.rows.TakenRow.{TakenRow}

-- the fingerprints of the rows that a change takes and leaves
abbrev pub row_by : (TableRow → ℕ) → Change → SelectedRow
row_by f (Inserted t r) = row.Inserted (f (record { table = t; row = r }))
row_by f (Deleted t r) = row.Deleted (f (record { table = t; row = r }))
row_by f (Updated t before after) = row.Updated (f (record { table = t; row = before })) (f (record { table = t; row = after }))

-- a row that is taken after n selected changes, if it has the fingerprint of a row that these left
abbrev pub taken_row : (TableRow → ℕ) → ℕ → List ℕ → Option TableRow → List TakenRow
taken_row f n prints None = []
taken_row f n prints (Some r) = if list_any (nat_eq (f r)) prints then record { before = n; print = f r } ∷ [] else []

-- The rows that changes take which aren't selected. Before all of these changes come n selected ones, which left rows with these fingerprints.
abbrev pub taken_rows : (TableRow → ℕ) → ℕ → List ℕ → List Marked → List TakenRow
taken_rows f n prints [] = []
taken_rows f n prints (m ∷ ms) =
    if m.selected then taken_rows f (n + 1) (cons_option (option_map f (leaves m.change)) prints) ms else taken_row f n prints (takes m.change) ++ taken_rows f n prints ms

-- the rows of the selected changes, and those that the others take, in the order of the changes
pub record IsRecorded (f : TableRow → ℕ) (ms : List Marked) (rows : List SelectedRow) (taken : List TakenRow) : Type 0 where
  pub selected : rows ≡ map (row_by f) (selected_changes ms)
  pub others : taken ≡ taken_rows f 0 [] ms

-- for each selected change, whether a part has it
abbrev pub marks_in : List Marked → List Marked → List Bool
marks_in [] part = []
marks_in (m ∷ ms) [] = []
marks_in (m ∷ ms) (n ∷ part) = if m.selected then n.selected ∷ marks_in ms part else marks_in ms part
