use Rattle.blog_differences.proofs.Outside.{outside_part}
use Rattle.blog_differences.proofs.laws.changes_that_are_not_undone_are_those_outside_of_the_part.Goals as goal

pub returns : goal.returns
returns c = outside_part
