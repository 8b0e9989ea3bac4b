use Rattle.blog_undo.proofs.Parts.{part-taken-back}
use Rattle.blog_undo.proofs.part_laws.untouched_part_is_taken_back.Goals as goal

pub returns : goal.returns
returns c = part-taken-back
