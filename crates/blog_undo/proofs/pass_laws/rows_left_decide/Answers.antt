use Rattle.blog_undo.proofs.OnePass.{rows-decide}
use Rattle.blog_undo.proofs.pass_laws.rows_left_decide.Goals as goal

pub returns : goal.returns
returns c = rows-decide
