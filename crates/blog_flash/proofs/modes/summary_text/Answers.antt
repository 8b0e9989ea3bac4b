use Rattle.std.proofs.Common.{refl}
use Rattle.blog_trans.specs.Selection.{selection_of}
use Rattle.blog_flash.specs.declared.modes.Mode.TheVariants.{Summary}
use Rattle.blog_flash.specs.Outputs.{output_of, MeetsHeadline}
use Rattle.blog_flash.proofs.Answering.{output-answers}
use Rattle.blog_flash.proofs.modes.summary_text.Goals as goal

pub returns : goal.returns
unfolding output_of MeetsHeadline
returns g c =
    output-answers c.args.bytes.now Summary (selection_of c.args.sel.now) _ c.counted.result (λ accepted. (accepted, refl, (accepted, refl)))
    c.counted.ensures.accepted c.counted.ensures.text c.counted.ensures.refused
