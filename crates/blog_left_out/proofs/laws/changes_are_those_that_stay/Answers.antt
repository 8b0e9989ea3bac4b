use Rattle.blog_left_out.proofs.Forming.{kept-log-changes}
use Rattle.blog_left_out.proofs.laws.changes_are_those_that_stay.Goals as goal

pub returns : goal.returns
returns c = kept-log-changes
