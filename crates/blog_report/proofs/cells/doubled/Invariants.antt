use Rattle.std.specs.Prelude.{[]}
use Rattle.std.proofs.Common.{◌≡◌}
use Rattle.blog_report.specs.Cells.{halved_on}
use Rattle.blog_report.proofs.cells.doubled.Given as goal

-- the rows of the cells are left
abbrev pub invariant-cells : goal.invariant-cells
invariant-cells g l = halved_on l.longer.entries l.key-iterator ≡ halved_on [] l.cells.entries
