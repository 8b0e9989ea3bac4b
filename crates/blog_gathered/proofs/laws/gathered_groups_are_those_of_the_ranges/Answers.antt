use Rattle.blog_gathered.proofs.Forming.{gathered-groups}
use Rattle.blog_gathered.proofs.laws.gathered_groups_are_those_of_the_ranges.Goals as goal

pub returns : goal.returns
returns c = gathered-groups
