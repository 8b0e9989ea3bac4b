use Rattle.blog_merge.proofs.Merging.{merges}
use Rattle.blog_merge.proofs.laws.updates_merge.Goals as goal

pub returns : goal.returns
returns c = merges
