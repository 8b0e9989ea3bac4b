use Rattle.blog_untouched.proofs.PartsBy.{part-undoable}
use Rattle.blog_untouched.proofs.laws.part_by_fingerprints_is_taken_back.Goals as goal

pub returns : goal.returns
returns c = part-undoable
