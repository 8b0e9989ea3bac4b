use Rattle.std.proofs.Common.{ap, ◌∙◌}
use Rattle.blog_trans.specs.Changes.{changes_of}
use Rattle.blog_gathered.proofs.Forming.{changes-of-ranges, gathered-groups}
use Rattle.blog_gathered.proofs.laws.gathered_changes_are_those_of_the_ranges.Goals as goal

pub returns : goal.returns
returns c = λ first rs sound all short. ap changes_of (gathered-groups first rs sound all short) ∙ changes-of-ranges rs
