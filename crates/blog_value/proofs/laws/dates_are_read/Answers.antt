use Rattle.blog_value.proofs.DatesRead.{date-read}
use Rattle.blog_value.proofs.laws.dates_are_read.Goals as goal

pub returns : goal.returns
returns c = date-read
