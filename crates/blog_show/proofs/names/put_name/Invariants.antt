use Rattle.std.proofs.Common.{length}
use Rattle.blog_show.proofs.names.put_name.Given as goal

abbrev pub decreases-parts : goal.decreases-parts
decreases-parts g l = length l.rest
