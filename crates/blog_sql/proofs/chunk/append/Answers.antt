use Rattle.std.proofs.lemmas.Result.{err_from_is_err_and}
use Rattle.blog_sql.proofs.Adding.{begins-longer}
use Rattle.blog_sql.proofs.chunk.append.Goals as goal

pub returns-in_err-put_part-clause-beginning : goal.returns-in_err-put_part-clause-beginning
returns-in_err-put_part-clause-beginning g c =
    let p = err_from_is_err_and c.from_residual.result c.from_residual.ensures.1 in
    rw p.1 (begins-longer _ _ _ _ (rw c.deref.ensures.value at c.in_err-put_part.ensures.beginning))
