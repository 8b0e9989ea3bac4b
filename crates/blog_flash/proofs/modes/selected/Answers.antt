use Rattle.std.proofs.Common.{sym, inr}
use Rattle.std.proofs.lemmas.Result.{err_from_is_err_and}
use Rattle.blog_trans.specs.Selection.{selection_of}
use Rattle.blog_trans.proofs.Opening.{opening-refused}
use Rattle.blog_flash.proofs.modes.selected.Goals as goal

pub returns-in_err-log-clause-refused : goal.returns-in_err-log-clause-refused
returns-in_err-log-clause-refused g c =
    let p = err_from_is_err_and c.from_residual.result c.from_residual.ensures.1 in
    rw (p.1, p.2) (inr (opening-refused c.args.bytes.now (selection_of c.args.sel.now) c.in_err-log.field-0.0 (sym c.in_err-log.ensures.exact)))
