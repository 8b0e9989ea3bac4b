use Rattle.std.proofs.Common.{◌≡◌, true}
use Rattle.blog_row.specs.RowsEvent.{are_marked}
use Rattle.blog_row.proofs.rows_parts.are_set.Given as goal

abbrev pub invariant-loop-i : goal.invariant-loop-i
invariant-loop-i l = are_marked l.i l.bitmap ≡ true
