-- Rows by the names of their tables.
use Rattle.std.specs.Prelude.{nat_eq, Vec, if◌then◌else◌}
use Rattle.std.specs.Cmp.Lexicographic.{pointwise}
use Rattle.std.proofs.Common.{◌≡◌, ℕ, Bool, true, false, List, [], ◌∷◌, refl, ap}
use Rattle.blog_report.specs.declared.sums.RowSums.{RowSums}
use Rattle.blog_report.specs.Cells.{added_at}
use Rattle.blog_report.specs.Sums.{plus}
use Rattle.blog_report.specs.code.ReportView.{named_rows}
use Rattle.blog_report.specs.code.TablesView.{same_key}

named-if : {A : Type 0} (same : Bool) (e : Vec ℕ A × RowSums) (es added : List (Vec ℕ A × RowSums)) (rows : RowSums) (names : List (List ℕ × RowSums)) → named_rows added ≡ names
    → named_rows (if same then (e.0, plus e.1 rows) ∷ es else e ∷ added) ≡ (if same then (e.0.items, plus e.1 rows) ∷ named_rows es else (e.0.items, e.1) ∷ names)
named-if true e es added rows names is = refl
named-if false e es added rows names is = ap (λ (l : List (List ℕ × RowSums)). (e.0.items, e.1) ∷ l) is

-- rows that are added at a key are added at its bytes
pub named-added : {A : Type 0} (es : List (Vec ℕ A × RowSums)) (key : Vec ℕ A) (rows : RowSums)
    → named_rows (added_at same_key es key rows) ≡ added_at (pointwise nat_eq) (named_rows es) key.items rows
named-added [] key rows = refl
named-added (e ∷ es) key rows = named-if (same_key key e.0) e es (added_at same_key es key rows) rows (added_at (pointwise nat_eq) (named_rows es) key.items rows) (named-added es key rows)
