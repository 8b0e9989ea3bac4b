-- What is added to a record.
use Rattle.std.specs.Prelude.{◌≡◌, ℕ, List, ◌++◌, length}
use Rattle.blog_later.specs.Among.{Step}
use Rattle.blog_untouched.specs.Steps.{rows_in, taken_in}
use Rattle.blog_untouched.specs.declared.record.ChangeRecord.{ChangeRecord}

-- the changes of steps, after k lists of selected changes, which left rows with these fingerprints
abbrev pub Adds : {A : Type 0} → (ℕ → List ℕ) → ℕ → List Step → ChangeRecord A → ChangeRecord A → Type 0
Adds prints k ss old new = (new.rows.items ≡ old.rows.items ++ rows_in ss) × (new.taken.items ≡ old.taken.items ++ taken_in prints k (length old.rows.items) ss)
