use Rattle.std.proofs.Common.{arith}
use Rattle.blog_row.specs.declared.order.Order.TheVariants.{Backward}
use Rattle.blog_trans.specs.Selection.{selection_of}
use Rattle.blog_flash.specs.declared.modes.Mode.TheVariants.{Flashback}
use Rattle.blog_flash.proofs.Answering.{output-answers, output-laid}
use Rattle.blog_flash.proofs.modes.flashback_log.Goals as goal

pub returns : goal.returns
returns g c =
    output-answers c.args.bytes.now Flashback (selection_of c.args.sel.now) _ c.laid_out.result (output-laid Backward _ _ (λ i. omega (arith, c.type_inv.bytes i)))
    c.laid_out.ensures.accepted c.laid_out.ensures.text c.laid_out.ensures.refused
