use Rattle.blog_merge.proofs.Merging.{undoes-and-merges-all}
use Rattle.blog_merge.proofs.laws.greatest_part_is_undone_and_rest_merged.Goals as goal

pub returns : goal.returns
returns c = undoes-and-merges-all
