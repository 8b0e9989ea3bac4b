use Rattle.blog_merge.proofs.PartsMerged.{undoes-and-merges-by}
use Rattle.blog_merge.proofs.laws.part_by_fingerprints_is_undone_and_rest_merged.Goals as goal

pub returns : goal.returns
returns c = undoes-and-merges-by
