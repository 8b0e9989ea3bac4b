use Rattle.blog_untouched.proofs.PartsBy.{all-kept}
use Rattle.blog_untouched.proofs.laws.all_are_kept_if_none_is_touched.Goals as goal

pub returns : goal.returns
returns c = all-kept
