use Rattle.blog_later.proofs.Among.{prints-among-suffice}
use Rattle.blog_later.proofs.laws.fingerprints_of_rows_left_before_suffice.Goals as goal

pub returns : goal.returns
returns c = prints-among-suffice
