use Rattle.blog_merge.proofs.Merging.{differs}
use Rattle.blog_merge.proofs.laws.pairs_are_the_difference.Goals as goal

pub returns : goal.returns
returns c = differs
