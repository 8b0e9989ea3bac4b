-- In which order the units of a log are listed.
use Rattle.std.specs.Prelude.{◌≡◌, ◌-◌, ℕ, List, filter, Result, Ok, Err}
use Rattle.std.specs.List.Sorted.{IsSortedByKey, IsStableByKey}
use Rattle.std.specs.Ordering.{nat_cmp}
use Rattle.blog_choice.specs.Choice.{Choice, chooses}
use Rattle.blog_trans.specs.Changes.{TableCount}
use Rattle.blog_list.specs.Lines.{Shown, rows_of}
use Rattle.blog_list.specs.declared.listing.Sorting.{Sorting}
use Rattle.blog_list.specs.declared.listing.Sorting.TheVariants.{Place, Rows}

-- how many rows of chosen tables are changed; none where they aren't known
abbrev pub chosen_rows : {X : Type 0} → Choice → Result (List TableCount) X → ℕ
chosen_rows choice (Ok counts) = rows_of (filter (λ c. chooses choice c.table.schema c.table.name) counts)
chosen_rows choice (Err why) = 0

-- how many these lack of the greatest number of 64 bits; none where they are as many, or more
abbrev pub fewer : {X : Type 0} → Choice → Result (List TableCount) X → ℕ
fewer choice changes = 18446744073709551615 - chosen_rows choice changes

abbrev pub unit_fewer : Choice → Shown → ℕ
unit_fewer choice s = fewer choice s.changes

-- Units are in the order of the log; or those that lack fewer rows are first, and those that lack as many are in the order of the log.
abbrev pub IsArranged : Sorting → Choice → List Shown → List Shown → Type 0
IsArranged Place choice units arranged = arranged ≡ units
IsArranged Rows choice units arranged = IsSortedByKey (unit_fewer choice) nat_cmp arranged × IsStableByKey (unit_fewer choice) nat_cmp units arranged
