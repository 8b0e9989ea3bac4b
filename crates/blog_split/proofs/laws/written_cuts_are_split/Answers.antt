-- What is written with its statements cut is cut from a log.
use Rattle.blog_split.proofs.Splitting.{cut-backward, cut-forward}
use Rattle.blog_split.proofs.laws.written_cuts_are_split.Goals as goal

pub returns-clause-forward : goal.returns-clause-forward
returns-clause-forward c = cut-forward

pub returns-clause-backward : goal.returns-clause-backward
returns-clause-backward c = cut-backward
