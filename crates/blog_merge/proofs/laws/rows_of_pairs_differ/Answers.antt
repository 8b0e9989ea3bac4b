use Rattle.blog_merge.proofs.Differences.{pairs-differ}
use Rattle.blog_merge.proofs.laws.rows_of_pairs_differ.Goals as goal

pub returns : goal.returns
returns c = pairs-differ
