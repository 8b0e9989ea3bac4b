use Rattle.std.proofs.Common.{◌++◌, ◌∷◌, []}
use Rattle.undo_run.proofs.Kept.{not-gathered}
use Rattle.undo_run.proofs.chosen.Chosen.with.Goals as goal

pub returns-in-Err : goal.returns-in-Err
returns-in-Err g c sel handed us u is has = not-gathered c.args.looks sel handed (us ++ u ∷ []) c.in-Err.fault (c.in-Err.ensures sel handed us u is has.kept)
