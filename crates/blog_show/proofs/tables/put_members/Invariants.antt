use Rattle.std.proofs.Common.{length}
use Rattle.blog_show.proofs.tables.put_members.Given as goal

abbrev pub decreases-texts : goal.decreases-texts
decreases-texts g l = length l.rest
