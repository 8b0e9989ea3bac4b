use Rattle.std.proofs.Common.{arith}
use Rattle.undo_run.proofs.LookedAt.{changed-since, clear-since}
use Rattle.undo_run.proofs.later.judged.Goals as goal

pub returns-then-since-gt0-clause-judges : goal.returns-then-since-gt0-clause-judges
returns-then-since-gt0-clause-judges g c m choice ls are = changed-since m choice ls c.args.since are c.if-since-gt0.true

pub returns-clause-judges : goal.returns-clause-judges
returns-clause-judges g c m choice ls are =
    let none = c.if-since-gt0.false in
    let known = c.if-since-gt0-2.false in
    clear-since m choice ls c.args.since are (omega (arith, none)) (omega (arith, known)) c.if-since.false
