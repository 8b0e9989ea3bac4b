use Rattle.std.proofs.Common.{◌≡◌, ◌++◌, ◌∷◌}
use Rattle.std.specs.List.{flat_map}
use Rattle.blog_text.specs.Escapes.{marks, quoted_mark}
use Rattle.blog_text.specs.code.MarksView.{marks_left}
use Rattle.blog_text.proofs.escapes.put_quoted.Given as goal

-- the marks are left
abbrev pub invariant-loop-mark : goal.invariant-loop-mark
invariant-loop-mark g l = record {
  next : (goal.iterator-loop-mark g).can_next l.mark-iterator;
  finite : (goal.iterator-loop-mark g).is_finite l.mark-iterator;
  text : l.out.items ++ flat_map quoted_mark (marks_left l.mark-iterator) ≡ l.fn.out.items ++ (96 ∷ flat_map quoted_mark (marks l.fn.name));
}
