use Rattle.undo_run.proofs.tracked.keep_if.Goals as goal

pub returns : goal.returns
returns g c asked = record { prints = c.in_ok-keep_later.ensures.prints; kept = c.in_ok-keep_later.ensures.kept }
