-- How large the numbers of the rows of tables are.
use Rattle.std.specs.Prelude.{ℕ, ◌≤◌, List, All}
use Rattle.blog_trans.specs.declared.counts.Count.{Count}

-- none of the numbers of a table is above n
abbrev pub IsFew : ℕ → Count → Type 0
IsFew n c = (c.inserts ≤ n) × (c.updates ≤ n) × (c.deletes ≤ n)

abbrev pub AreFew : ℕ → List Count → Type 0
AreFew n counts = All (IsFew n) counts
