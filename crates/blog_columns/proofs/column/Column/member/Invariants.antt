use Rattle.std.proofs.Common.{length}
use Rattle.blog_columns.proofs.column.Column.member.Given as goal

abbrev pub decreases-members : goal.decreases-members
decreases-members l = length l.rest
