-- The groups of an accepted log are what the progress has kept.
use Rattle.blog_trans.proofs.laws.accepted_logs_have_groups.Goals as goal
use Rattle.blog_trans.proofs.ProgressAccepted.{accepted-groups}

pub returns : goal.returns
returns c bytes sel accepted = accepted-groups bytes sel accepted
