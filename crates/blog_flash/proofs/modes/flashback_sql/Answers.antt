use Rattle.std.proofs.Common.{◌∙◌, arith}
use Rattle.blog_trans.specs.Selection.{selection_of}
use Rattle.blog_flash.proofs.Answering.{undone-answers}
use Rattle.blog_flash.proofs.modes.flashback_sql.Goals as goal

pub returns : goal.returns
returns g c =
    undone-answers c.args.bytes.now (selection_of c.args.sel.now) c.deref.result.now (selection_of c.all.result) c.printed.result (λ i. omega (arith, c.type_inv.bytes i)) c.in_ok-written.ensures.accepted c.all.ensures
    (c.deref.ensures.value ∙ c.in_ok-written.ensures.text) c.printed.ensures.text c.printed.ensures.refused
