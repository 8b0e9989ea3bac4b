-- A log whose statements are cut keeps the changes.
use Rattle.blog_split.proofs.Cutting.{keeps-changes}
use Rattle.blog_split.proofs.laws.split_keeps_changes.Goals as goal

pub returns : goal.returns
returns c = keeps-changes
