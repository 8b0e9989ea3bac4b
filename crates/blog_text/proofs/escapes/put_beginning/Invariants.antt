use Rattle.std.proofs.Common.{◌≡◌, ◌++◌}
use Rattle.blog_text.specs.Escapes.{beginning, marks}
use Rattle.blog_text.specs.code.MarksView.{marks_left}
use Rattle.blog_text.proofs.escapes.put_beginning.Given as goal

-- the beginning of the marks that are left, in the columns and characters that are left
abbrev pub invariant-loop-mark : goal.invariant-loop-mark
invariant-loop-mark g l = record {
  next : (goal.iterator-loop-mark g).can_next l.mark-iterator;
  finite : (goal.iterator-loop-mark g).is_finite l.mark-iterator;
  text : l.out.items ++ beginning l.left l.more (marks_left l.mark-iterator) ≡ l.fn.out.items ++ beginning l.fn.columns l.fn.characters (marks l.fn.text);
}
