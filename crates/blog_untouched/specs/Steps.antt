-- What is recorded of steps of changes, by fingerprints of rows: the selected changes, and the rows that others take of those that selected ones before them left.
use Rattle.std.specs.Prelude.{ℕ, ◌+◌, Bool, if◌then◌else◌, List, [], ◌∷◌, ◌++◌, map, length}
use Rattle.std.specs.List.{flat_map}
use Rattle.blog_later.specs.Among.{Step, Selected, Other}
use Rattle.blog_later.specs.Later.{unit_changes}
use Rattle.blog_later.specs.Prints.{print_of}
use Rattle.blog_trans.specs.Changes.{Change, changes}
use Rattle.blog_trans.specs.Selection.{Selection}
use Rattle.blog_undo.specs.Mixed.{takes}
use Rattle.blog_units.specs.Units.{Facts, range_of_unit}
use Rattle.blog_untouched.specs.Recorded.{row_by, taken_row}
use Rattle.blog_untouched.specs.declared.rows.SelectedRow.{SelectedRow}
use Rattle.blog_untouched.specs.declared.rows.TakenRow.{TakenRow}

-- selected changes
abbrev pub rows_of : List Change → List SelectedRow
rows_of cs = map (row_by print_of) cs

-- the rows that changes take, if their fingerprints are among these; so many selected changes come before
abbrev pub taken_of : ℕ → List ℕ → List Change → List TakenRow
taken_of n prints cs = flat_map (λ c. taken_row print_of n prints (takes c)) cs

-- the selected changes of steps
abbrev pub rows_in : List Step → List SelectedRow
rows_in [] = []
rows_in (Selected cs ∷ ss) = rows_of cs ++ rows_in ss
rows_in (Other cs ∷ ss) = rows_in ss

-- The rows that the others take. k lists of selected changes come before, and n of these; each selected step is one more list.
abbrev pub taken_in : (ℕ → List ℕ) → ℕ → ℕ → List Step → List TakenRow
taken_in prints k n [] = []
taken_in prints k n (Selected cs ∷ ss) = taken_in prints (k + 1) (n + length cs) ss
taken_in prints k n (Other cs ∷ ss) = taken_of n (prints k) cs ++ taken_in prints k n ss

-- a unit of a log, which is chosen if it passes a test: its changes to the tables of a selection are selected then
abbrev pub unit_step : (Facts → Bool) → Selection → List ℕ → Facts → Step
unit_step p sel bytes u = if p u then Selected (changes bytes (range_of_unit sel u)) else Other (unit_changes bytes u)
