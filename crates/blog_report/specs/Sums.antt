-- Numbers of rows, each at most the greatest number of 64 bits.
use Rattle.std.specs.Prelude.{ℕ, ◌+◌, ◌-◌, ◌^◌, min}
use Rattle.blog_report.specs.declared.sums.RowSums.{RowSums}

-- a number, or the greatest one of 64 bits
abbrev pub at_most : ℕ → ℕ
at_most n = min n (2 ^ 64 - 1)

abbrev pub none : RowSums
none = record { inserts = 0; updates = 0; deletes = 0 }

-- rows and others
abbrev pub plus : RowSums → RowSums → RowSums
plus a b = record {
  inserts = at_most (a.inserts + b.inserts);
  updates = at_most (a.updates + b.updates);
  deletes = at_most (a.deletes + b.deletes);
}

-- how many that is
abbrev pub rows_in : RowSums → ℕ
rows_in a = at_most (a.deletes + (a.updates + a.inserts))
