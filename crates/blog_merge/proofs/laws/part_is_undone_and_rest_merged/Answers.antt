use Rattle.blog_merge.proofs.Merging.{undoes-and-merges}
use Rattle.blog_merge.proofs.laws.part_is_undone_and_rest_merged.Goals as goal

pub returns : goal.returns
returns c = undoes-and-merges
