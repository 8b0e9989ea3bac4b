-- By the stop, and by what the check of the sum says.
use Rattle.std.proofs.Common.{◌∙◌, sym}
use Rattle.blog_source.proofs.Left.{right-tested, right-none}
use Rattle.blog_source.proofs.walk.begins_right.Goals as goal

pub returns-then-is_below : goal.returns-then-is_below
returns-then-is_below c =
    right-tested c.args.bytes.now c.args.stop c.args.at c.summed_event.result c.is_ok.result (sym c.if-is_below.ensures) c.summed_event.ensures.exact c.is_ok.ensures.value

pub returns-else-is_below : goal.returns-else-is_below
returns-else-is_below c = c.if-is_below.false ∙ right-none c.args.bytes.now c.args.stop c.args.at (sym c.if-is_below.ensures)
