-- The transactions that the progress keeps are the groups.
use Rattle.blog_trans.proofs.laws.progress_gives_groups.Goals as goal
use Rattle.blog_trans.proofs.ProgressGroups.{progress-is-groups}

pub returns : goal.returns
returns c sel es passes out = progress-is-groups sel es passes out
