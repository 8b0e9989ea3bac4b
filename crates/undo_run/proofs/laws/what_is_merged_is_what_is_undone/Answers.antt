use Rattle.undo_run.proofs.MergedLog.{merged-undone}
use Rattle.undo_run.proofs.laws.what_is_merged_is_what_is_undone.Goals as goal

pub returns : goal.returns
returns c = merged-undone
