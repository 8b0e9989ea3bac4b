use Rattle.std.proofs.Common.{◌≤◌, ◌+◌, Bool, List}
use Rattle.blog_untouched.specs.code.TakersView.{AreFirst, AreTakers}
use Rattle.blog_untouched.specs.declared.rows.SelectedRow.{SelectedRow}
use Rattle.blog_untouched.proofs.takers.add_others.Given as goal

-- the takers are those from the place that was reached
abbrev pub invariant-first : goal.invariant-first
invariant-first g l = record {
  within : l.first ≤ l.end;
  takers : (rows : List SelectedRow) → (marks : List Bool) → AreTakers rows l.taken marks (l.row + 1) l.end l.fn.takers → AreTakers rows l.taken marks (l.row + 1) l.first l.takers;
  firsts : (rows : List SelectedRow) → (marks : List Bool) → AreFirst rows l.taken marks (l.row + 1) l.end l.fn.takers → AreFirst rows l.taken marks (l.row + 1) l.first l.takers;
}

abbrev pub decreases-first : goal.decreases-first
decreases-first g l = l.first
