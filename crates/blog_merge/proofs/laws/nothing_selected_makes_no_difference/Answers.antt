use Rattle.blog_merge.proofs.Differences.{no-difference}
use Rattle.blog_merge.proofs.laws.nothing_selected_makes_no_difference.Goals as goal

pub returns : goal.returns
returns c = no-difference
