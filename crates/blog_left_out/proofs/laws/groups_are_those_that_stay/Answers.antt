use Rattle.blog_left_out.proofs.Forming.{kept-groups}
use Rattle.blog_left_out.proofs.laws.groups_are_those_that_stay.Goals as goal

pub returns : goal.returns
returns c = kept-groups
