-- Which selected changes are kept, by the fingerprints alone.
use Rattle.std.specs.Prelude.{◌≤◌, ◌+◌, ℕ, Bool, false, not, List, [], ◌∷◌, Option, Some, None, filter, nat_eq, nat_lt}
use Rattle.std.specs.List.{AllByRecursion, list_any}
use Rattle.blog_untouched.specs.Rows.{print_left}
use Rattle.blog_untouched.specs.code.TakersView.{prints_outside}
use Rattle.blog_untouched.specs.declared.rows.SelectedRow.{SelectedRow}
use Rattle.blog_untouched.specs.declared.rows.TakenRow.{TakenRow}

-- the taken rows that are taken after the selected change n
abbrev pub taken_after : ℕ → List TakenRow → List TakenRow
taken_after n taken = filter (λ t. nat_lt n t.before) taken

abbrev pub is_print_among : Option ℕ → List ℕ → Bool
is_print_among None prints = false
is_print_among (Some print) prints = list_any (nat_eq print) prints

-- whether each is kept, where the first has the number n
abbrev pub marks_from : ℕ → List SelectedRow → List TakenRow → List Bool
marks_from n [] taken = []
marks_from n (row ∷ rows) taken = let later = marks_from (n + 1) rows taken in not (is_print_among (print_left row) (prints_outside (taken_after n taken) rows later)) ∷ later

-- the numbers of selected changes before the taken rows don't fall, from n on
abbrev pub AreRising : ℕ → List TakenRow → Type 0
AreRising n [] = Unit
AreRising n (t ∷ taken) = (n ≤ t.before) × AreRising t.before taken

-- nor are they greater than the number of selected changes
abbrev pub AreInOrder : ℕ → List TakenRow → Type 0
AreInOrder n taken = AreRising 0 taken × AllByRecursion (λ t. t.before ≤ n) taken
