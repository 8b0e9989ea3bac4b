use Rattle.blog_untouched.proofs.PartsBy.{part-greatest}
use Rattle.blog_untouched.proofs.laws.part_by_fingerprints_is_greatest.Goals as goal

pub returns : goal.returns
returns c = part-greatest
