use Rattle.blog_followed.proofs.TouchedPairs.{follows-alike}
use Rattle.blog_followed.proofs.laws.fingerprints_decide_what_is_followed.Goals as goal

pub returns : goal.returns
returns c = follows-alike
