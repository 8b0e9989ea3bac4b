-- What a contract sees of the rows by table.
use Rattle.std.specs.Prelude.{◌≡◌, ℕ, Bool, nat_eq, List, ◌++◌, length, Vec}
use Rattle.std.specs.Cmp.Lexicographic.{pointwise}
use Rattle.std.specs.Int.{to_be_bytes, w64}
use Rattle.blog_report.specs.declared.sums.RowSums.{RowSums}
use Rattle.blog_report.specs.declared.tables.Tables.{Tables}
use Rattle.blog_report.specs.Cells.{added_at}

-- the key of a table by its names
abbrev pub table_key : List ℕ → List ℕ → List ℕ
table_key schema table = to_be_bytes w64 (length schema) ++ (schema ++ table)

-- keys are equal if their bytes are
abbrev pub same_key : {A : Type 0} → Vec ℕ A → Vec ℕ A → Bool
same_key k l = pointwise nat_eq k.items l.items

-- rows are added at the key
abbrev pub AddsRows : {A : Type 0} → List ℕ → RowSums → Tables A → Tables A → Type 0
AddsRows {A} key rows old new = (k : Vec ℕ A) × (k.items ≡ key) × (new.sums.entries ≡ added_at same_key old.sums.entries k rows)
