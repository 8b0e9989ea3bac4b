use Rattle.undo_run.proofs.PartLog.{undone-changes}
use Rattle.undo_run.proofs.laws.what_is_written_is_what_is_undone.Goals as goal

pub returns : goal.returns
returns c = undone-changes
