use Rattle.blog_undo.proofs.TakingBack.{takes-back}
use Rattle.blog_undo.proofs.laws.untouched_changes_are_taken_back.Goals as goal

pub returns : goal.returns
returns c = takes-back
