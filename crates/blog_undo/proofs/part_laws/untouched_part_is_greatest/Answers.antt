use Rattle.blog_undo.proofs.Parts.{greatest-part}
use Rattle.blog_undo.proofs.part_laws.untouched_part_is_greatest.Goals as goal

pub returns : goal.returns
returns c = greatest-part
