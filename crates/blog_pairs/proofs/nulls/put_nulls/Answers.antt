use Rattle.blog_pairs.proofs.NullBits.{zeros_taken}
use Rattle.blog_pairs.proofs.nulls.put_nulls.Goals as goal

pub mark_nulls-requires-clause-none : goal.mark_nulls-requires-clause-none
mark_nulls-requires-clause-none g c = λ k. zeros_taken 512 _ k
