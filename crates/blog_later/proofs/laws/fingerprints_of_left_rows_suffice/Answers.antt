use Rattle.blog_later.proofs.Untouched.{prints-of-left-suffice}
use Rattle.blog_later.proofs.laws.fingerprints_of_left_rows_suffice.Goals as goal

pub returns : goal.returns
returns c = prints-of-left-suffice
