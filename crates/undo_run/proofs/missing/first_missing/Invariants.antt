use Rattle.std.proofs.Common.{◌≡◌, map, take, true}
use Rattle.blog_event.specs.code.LogView.{log_bytes}
use Rattle.blog_request.specs.code.IdsView.{ids_value}
use Rattle.blog_trans.specs.Selection.{selection_of}
use Rattle.undo_run.specs.Units.{are_found}
use Rattle.undo_run.proofs.missing.first_missing.Given as goal

-- those so far are found
abbrev pub invariant-loop-n : goal.invariant-loop-n
invariant-loop-n l = are_found (take l.n (map ids_value l.wanted)) (selection_of l.inside) (log_bytes l.log) ≡ true
