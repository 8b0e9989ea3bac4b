use Rattle.blog_followed.proofs.TouchedPairs.{touching-suffices}
use Rattle.blog_followed.proofs.laws.changes_of_followed_rows_suffice.Goals as goal

pub returns : goal.returns
returns c = touching-suffices
