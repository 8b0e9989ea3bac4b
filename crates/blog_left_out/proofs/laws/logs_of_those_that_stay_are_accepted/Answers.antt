use Rattle.blog_left_out.proofs.Forming.{kept-accepted}
use Rattle.blog_left_out.proofs.laws.logs_of_those_that_stay_are_accepted.Goals as goal

pub returns : goal.returns
returns c = kept-accepted
