use Rattle.std.proofs.Common.{length}
use Rattle.blog_untouched.specs.code.MarksView.{AreInOrder}
use Rattle.blog_untouched.proofs.First.{IsReachedNext}
use Rattle.blog_untouched.proofs.Marks.{IsReached}
use Rattle.blog_untouched.proofs.keeping.kept_changes.Given as goal

-- the marks are written from the change on that was reached
abbrev pub invariant-row : goal.invariant-row
invariant-row g l = record {
  reached : IsReached l.rows l.taken l.marks.items l.row l.first l.takers l.touched.items;
  next : AreInOrder (length l.rows) l.taken → IsReachedNext l.rows l.taken l.marks.items l.row l.first l.takers l.touched.items;
}

abbrev pub decreases-row : goal.decreases-row
decreases-row g l = l.row
