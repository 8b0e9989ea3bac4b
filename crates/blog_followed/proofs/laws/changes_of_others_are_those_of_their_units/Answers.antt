use Rattle.blog_followed.proofs.OfSteps.{are-of-others}
use Rattle.blog_followed.proofs.laws.changes_of_others_are_those_of_their_units.Goals as goal

pub returns : goal.returns
returns c = are-of-others
