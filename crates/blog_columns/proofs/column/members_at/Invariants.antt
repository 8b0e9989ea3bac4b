use Rattle.std.proofs.Common.{◌≤◌, length}
use Rattle.blog_columns.proofs.column.members_at.Given as goal

-- what is left is no longer than all of it
abbrev pub invariant-texts : goal.invariant-texts
invariant-texts l = length l.rest ≤ length l.count.rest.now

abbrev pub decreases-texts : goal.decreases-texts
decreases-texts l = l.left
