-- The rows of tables in intervals of time.
use Rattle.std.specs.Prelude.{ℕ, ◌+◌, ◌*◌, ◌/◌, ◌%◌, ◌^◌, Bool, nat_eq, if◌then◌else◌, List, [], ◌∷◌}
use Rattle.blog_report.specs.declared.sums.RowSums.{RowSums}
use Rattle.blog_report.specs.Sums.{none, plus}

-- the key of an interval and a table, and both of a key
abbrev pub cell_key : ℕ → ℕ → ℕ
cell_key interval table = interval * 2 ^ 32 + table

abbrev pub interval_of : ℕ → ℕ
interval_of key = key / 2 ^ 32

abbrev pub table_of : ℕ → ℕ
table_of key = key % 2 ^ 32

-- the key of the same table in an interval twice as long
abbrev pub halved : ℕ → ℕ
halved key = cell_key (interval_of key / 2) (table_of key)

-- rows are added at a key
abbrev pub added_at : {K : Type 0} → (K → K → Bool) → List (K × RowSums) → K → RowSums → List (K × RowSums)
added_at eq [] key rows = (key, plus none rows) ∷ []
added_at eq (e ∷ es) key rows = if eq key e.0 then (e.0, plus e.1 rows) ∷ es else e ∷ added_at eq es key rows

-- in intervals twice as long, they are added one by one
abbrev pub halved_on : List (ℕ × RowSums) → List (ℕ × RowSums) → List (ℕ × RowSums)
halved_on done [] = done
halved_on done (e ∷ es) = halved_on (added_at nat_eq done (halved e.0) e.1) es

abbrev pub doubled : List (ℕ × RowSums) → List (ℕ × RowSums)
doubled es = halved_on [] es

-- all rows together
abbrev pub all_rows : {K : Type 0} → List (K × RowSums) → RowSums
all_rows [] = none
all_rows (e ∷ es) = plus e.1 (all_rows es)
