use Rattle.std.proofs.lemmas.Result.{err_from_is_err_and, on_ok_weaker, on_err_weaker}
use Rattle.blog_sql.proofs.Lines.{adds-last, full-broken, last-broken, rest-is}
use Rattle.blog_sql.proofs.base64_lines.put_lines.Goals as goal

pub returns-then-done-bytes-clause-adds : goal.returns-then-done-bytes-clause-adds
returns-then-done-bytes-clause-adds g c =
    on_ok_weaker c.put_line.result (adds-last _ _ _ _ _ _ c.args.bytes.now _ c.in_ok-done.done c.in_ok-done.ensures.adds (rest-is c.in_ok-done.done c.args.bytes.now) c.in_ok-done.ensures.full c.in_ok-done.ensures.within) c.put_line.ensures.adds

pub returns-then-done-bytes-clause-beginning : goal.returns-then-done-bytes-clause-beginning
returns-then-done-bytes-clause-beginning g c =
    on_err_weaker c.put_line.result (last-broken _ _ _ _ _ c.args.bytes.now _ c.in_ok-done.done c.in_ok-done.ensures.adds (rest-is c.in_ok-done.done c.args.bytes.now) c.in_ok-done.ensures.full c.in_ok-done.ensures.within) c.put_line.ensures.beginning

pub returns-in_err-done-clause-beginning : goal.returns-in_err-done-clause-beginning
returns-in_err-done-clause-beginning g c =
    let p = err_from_is_err_and c.from_residual.result c.from_residual.ensures.1 in
    rw p.1 (full-broken _ _ _ c.args.bytes.now c.in_err-done.ensures.beginning)
