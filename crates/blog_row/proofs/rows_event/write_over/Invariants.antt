use Rattle.std.proofs.Common.{drop}
use Rattle.blog_event.specs.Writing.{joined}
use Rattle.blog_row.proofs.Overwriting.{IsOver}
use Rattle.blog_row.proofs.rows_event.write_over.Given as goal

-- what is written, and what is left
abbrev pub invariant-loop-part : goal.invariant-loop-part
invariant-loop-part l = IsOver (joined l.parts) (joined (drop l.part-index l.parts)) l.at l.fn.to l.to
