use Rattle.std.proofs.Common.{refl}
use Rattle.blog_trans.specs.Selection.{selection_of}
use Rattle.blog_flash.specs.declared.modes.Mode.TheVariants.{ForwardSql}
use Rattle.blog_flash.specs.Outputs.{output_of, MeetsHeadline}
use Rattle.blog_flash.proofs.Answering.{output-answers}
use Rattle.blog_flash.proofs.modes.forward_sql.Goals as goal

pub returns : goal.returns
unfolding output_of MeetsHeadline
returns g c =
    output-answers c.args.bytes.now ForwardSql (selection_of c.args.sel.now) _ c.printed.result (λ accepted. (accepted, refl, (accepted, refl)))
    c.printed.ensures.accepted c.printed.ensures.text c.printed.ensures.refused
