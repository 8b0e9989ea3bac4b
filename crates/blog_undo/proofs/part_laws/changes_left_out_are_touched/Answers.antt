use Rattle.blog_undo.proofs.Parts.{left-out-touched}
use Rattle.blog_undo.proofs.part_laws.changes_left_out_are_touched.Goals as goal

pub returns : goal.returns
returns c = left-out-touched
