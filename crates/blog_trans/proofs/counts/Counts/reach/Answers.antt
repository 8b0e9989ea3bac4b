use Rattle.std.proofs.Common.{◌≡◌, ◌+◌, ◌-◌, refl, arith}
use Rattle.blog_trans.proofs.CountsCode.{none, filled-up, counts-filled}
use Rattle.blog_trans.proofs.counts.Counts.reach.Goals as goal

pub returns-in_ok-resize-clause-counts : goal.returns-in_ok-resize-clause-counts
returns-in_ok-resize-clause-counts g c = λ tables cs ts within are.
    let rows = c.args.self.now.rows in
    let plain : c.default.result ≡ none = (let d = c.default.ensures in grind arith) in
    counts-filled tables cs ts c.args.self.now _ (c.args.table + 1 - rows.len)
    (filled-up rows.items _ none (c.args.table + 1) (c.args.table + 1 - rows.len) (omega (arith, rows.ok.0, c.len.ensures, c.if-len.true)) (rw plain at c.in_ok-resize.ensures.items))
    refl (omega (arith, within, c.in_ok-resize.ensures.len, c.resize.new.self.ok.0)) are
