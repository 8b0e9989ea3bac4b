use Rattle.std.proofs.Common.{◌≡◌, ◌-◌, take, drop}
use Rattle.std.specs.Prelude.{map}
use Rattle.blog_trans.specs.code.IndexView.{table_counted}
use Rattle.blog_text.specs.Tables.{largest_first}
use Rattle.blog_text.specs.code.Counted.{counts_in}
use Rattle.blog_text.proofs.tables.largest_of.Given as goal

-- the largest of the last n tables
abbrev pub invariant-tables : goal.invariant-tables
invariant-tables g l = map table_counted l.largest.items ≡ take 10 (largest_first (drop (l.tables - l.n) (counts_in l.index)))
