use Rattle.blog_left_out.proofs.Keeping.{kept-all}
use Rattle.blog_left_out.proofs.laws.all_that_stay_are_all.Goals as goal

pub returns : goal.returns
returns c = kept-all
