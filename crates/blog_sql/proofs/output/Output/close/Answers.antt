use Rattle.std.proofs.lemmas.Result.{err_from_is_err_and}
use Rattle.blog_sql.proofs.Walking.{closed, close-broken, lines-broken}
use Rattle.blog_sql.proofs.output.Output.close.Goals as goal

pub returns-in_err-put_lines-clause-beginning : goal.returns-in_err-put_lines-clause-beginning
returns-in_err-put_lines-clause-beginning g c =
    let p = err_from_is_err_and c.from_residual.result c.from_residual.ensures.1 in
    rw p.1 (lines-broken _ _ c.args.self.now.chunk.items c.args.self.now.held.items c.args.self.now.is_open c.if-not-self.false (rw c.deref.ensures.value at c.in_err-put_lines.ensures.beginning))

pub returns-in_err-append-clause-beginning : goal.returns-in_err-append-clause-beginning
returns-in_err-append-clause-beginning g c =
    let p = err_from_is_err_and c.from_residual-in_err-append.result c.from_residual-in_err-append.ensures.1 in
    rw p.1 (close-broken _ _ _ c.args.self.now.chunk.items _ c.args.self.now.held.items c.args.self.now.is_open c.if-not-self.false (rw c.deref.ensures.value at c.in_ok-put_lines.ensures.adds) c.in_err-append.ensures.beginning)

pub returns-clause-adds : goal.returns-clause-adds
returns-clause-adds g c = closed _ _ _ _ _ _ c.args.self.now.held.items c.args.self.now.is_open c.if-not-self.false (rw c.deref.ensures.value at c.in_ok-put_lines.ensures.adds) c.in_ok-append.ensures.adds
