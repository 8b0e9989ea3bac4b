use Rattle.blog_undo.proofs.OnePass.{prints-suffice}
use Rattle.blog_undo.proofs.pass_laws.fingerprints_suffice.Goals as goal

pub returns : goal.returns
returns c = prints-suffice
