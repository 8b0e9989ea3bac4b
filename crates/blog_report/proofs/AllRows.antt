-- The rows of cells, all together.
use Rattle.std.specs.Prelude.{nat_eq, unwrap_or}
use Rattle.std.specs.Map.{lookup}
use Rattle.std.proofs.Common.{◌≡◌, ℕ, Bool, true, false, List, [], ◌∷◌, refl, sym, ap, ◌∙◌}
use Rattle.indexmap.specs.IndexMap.{insert_entry}
use Rattle.blog_report.specs.declared.sums.RowSums.{RowSums}
use Rattle.blog_report.specs.Cells.{added_at, all_rows, doubled, halved, halved_on}
use Rattle.blog_report.specs.Sums.{none, plus}
use Rattle.blog_report.proofs.Adding.{plus_assoc, plus_comm, plus_none}

-- what is inserted at a key adds rows there
pub inserted : {K : Type 0} (eq : K → K → Bool) (es : List (K × RowSums)) (key : K) (rows : RowSums)
    → insert_entry eq es key (plus (unwrap_or (lookup (eq key) es) none) rows) ≡ added_at eq es key rows
inserted eq [] key rows = refl
inserted {K} eq (e ∷ es) key rows = by_case (eq key e.0) refl (inserted eq es key rows) where
  by_case : (same : Bool) → eq key e.0 ≡ same → insert_entry eq es key (plus (unwrap_or (lookup (eq key) es) none) rows) ≡ added_at eq es key rows
      → insert_entry eq (e ∷ es) key (plus (unwrap_or (lookup (eq key) (e ∷ es)) none) rows) ≡ added_at eq (e ∷ es) key rows
  by_case true is behind = rw is refl
  by_case false isnt behind = rw isnt (ap (λ (l : List (K × RowSums)). e ∷ l) behind)

-- they are among all
pub all_added : {K : Type 0} (eq : K → K → Bool) (es : List (K × RowSums)) (key : K) (rows : RowSums) → all_rows (added_at eq es key rows) ≡ plus (all_rows es) rows
all_added eq [] key rows = plus_none none rows
all_added eq (e ∷ es) key rows = by_case (eq key e.0) refl (all_added eq es key rows) where
  by_case : (same : Bool) → eq key e.0 ≡ same → all_rows (added_at eq es key rows) ≡ plus (all_rows es) rows
      → all_rows (added_at eq (e ∷ es) key rows) ≡ plus (plus e.1 (all_rows es)) rows
  by_case true is behind =
      rw is (plus_assoc e.1 rows (all_rows es) ∙ ap (plus e.1) (plus_comm rows (all_rows es)) ∙ sym (plus_assoc e.1 (all_rows es) rows))
  by_case false isnt behind = rw isnt (ap (plus e.1) behind ∙ sym (plus_assoc e.1 (all_rows es) rows))

none-more : {K : Type 0} (es : List (K × RowSums)) → plus (all_rows es) none ≡ all_rows es
none-more [] = refl
none-more (e ∷ es) = plus_none e.1 (all_rows es)

-- so are those that are added one by one
halved-rows : (done es : List (ℕ × RowSums)) → all_rows (halved_on done es) ≡ plus (all_rows done) (all_rows es)
halved-rows done [] = sym (none-more done)
halved-rows done (e ∷ es) =
    halved-rows (added_at nat_eq done (halved e.0) e.1) es
    ∙ ap (λ (s : RowSums). plus s (all_rows es)) (all_added nat_eq done (halved e.0) e.1)
    ∙ plus_assoc (all_rows done) e.1 (all_rows es)

-- intervals twice as long have the same rows
pub doubled_rows : (es : List (ℕ × RowSums)) → all_rows (doubled es) ≡ all_rows es
doubled_rows es = halved-rows [] es ∙ plus_comm none (all_rows es) ∙ none-more es

-- rows are added to those of cells, or to those without a time
pub cell_drawn : (old new : List (ℕ × RowSums)) (key : ℕ) (rows untimed : RowSums) → new ≡ added_at nat_eq old key rows
    → plus (all_rows new) untimed ≡ plus (plus (all_rows old) untimed) rows
cell_drawn old new key rows untimed is =
    ap (λ (s : RowSums). plus s untimed) (ap all_rows is ∙ all_added nat_eq old key rows)
    ∙ plus_assoc (all_rows old) rows untimed ∙ ap (plus (all_rows old)) (plus_comm rows untimed) ∙ sym (plus_assoc (all_rows old) untimed rows)

pub untimed_drawn : (timed untimed rows : RowSums) → plus timed (plus untimed rows) ≡ plus (plus timed untimed) rows
untimed_drawn timed untimed rows = sym (plus_assoc timed untimed rows)
