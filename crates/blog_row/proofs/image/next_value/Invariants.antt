use Rattle.std.proofs.Common.{◌≤◌, ◌-◌}
use Rattle.blog_row.specs.code.ImageView.{AreNull}
use Rattle.blog_row.proofs.image.next_value.Given as goal

abbrev pub invariant-loop-i : goal.invariant-loop-i
invariant-loop-i l = (l.from ≤ l.i) × AreNull l.nulls l.from l.i

abbrev pub decreases-loop-i : goal.decreases-loop-i
decreases-loop-i l = l.columns - l.i
