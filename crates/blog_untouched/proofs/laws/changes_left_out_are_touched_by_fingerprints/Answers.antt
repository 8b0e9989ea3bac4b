use Rattle.blog_untouched.proofs.PartsBy.{left-out-touched-by}
use Rattle.blog_untouched.proofs.laws.changes_left_out_are_touched_by_fingerprints.Goals as goal

pub returns : goal.returns
returns c = left-out-touched-by
