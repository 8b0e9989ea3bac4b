use Rattle.blog_followed.proofs.TouchedPairs.{follows-on}
use Rattle.blog_followed.proofs.laws.rows_are_followed_through_several_lists.Goals as goal

pub returns : goal.returns
returns c = follows-on
