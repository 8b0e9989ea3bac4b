use Rattle.std.proofs.Common.{length}
use Rattle.blog_show.proofs.texts.put_digits.Given as goal

abbrev pub decreases-parts : goal.decreases-parts
decreases-parts g l = length l.rest
