use Rattle.blog_followed.proofs.OfSteps.{follows-pairs}
use Rattle.blog_followed.proofs.laws.real_rows_are_followed.Goals as goal

pub returns : goal.returns
returns c = follows-pairs
