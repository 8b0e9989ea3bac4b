use Rattle.std.proofs.Common.{◌≡◌, ◌+◌}
use Rattle.blog_text.specs.Escapes.{all_quoted, name_columns}
use Rattle.blog_text.specs.code.MarksView.{marks_left}
use Rattle.blog_text.proofs.escapes.left_beside_name.Given as goal

-- what the marks take that aren't left is taken off
abbrev pub invariant-loop-mark : goal.invariant-loop-mark
invariant-loop-mark l = record {
  next : goal.iterator-loop-mark.can_next l.mark-iterator;
  finite : goal.iterator-loop-mark.is_finite l.mark-iterator;
  columns : l.left + name_columns l.name ≡ l.fn.columns + all_quoted (marks_left l.mark-iterator);
}
