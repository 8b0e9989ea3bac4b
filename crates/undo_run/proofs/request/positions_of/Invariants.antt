use Rattle.std.proofs.Common.{◌≡◌, map, take}
use Rattle.blog_source.specs.Places.{position_of}
use Rattle.blog_source.specs.code.SourceView.{log_of}
use Rattle.undo_run.proofs.request.positions_of.Given as goal

-- those so far are there
abbrev pub invariant-loop-n : goal.invariant-loop-n
invariant-loop-n g l = l.at.items ≡ map (position_of (log_of l.source)) (take l.n l.places)
