use Rattle.blog_merge.proofs.TouchingPairs.{have-same-pairs}
use Rattle.blog_merge.proofs.laws.untouched_rows_make_no_difference.Goals as goal

pub returns : goal.returns
returns c = have-same-pairs
