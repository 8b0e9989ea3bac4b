-- The statements cut forward are those that are seen looking back.
use Rattle.blog_trans.proofs.laws.statements_are_those_since.Goals as goal
use Rattle.blog_trans.proofs.StatementCuts.{statements-ended, statements-joined}

pub returns-clause-ended : goal.returns-clause-ended
returns-clause-ended c = statements-ended

pub returns-clause-joined : goal.returns-clause-joined
returns-clause-joined c = statements-joined
