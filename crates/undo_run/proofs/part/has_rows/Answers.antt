use Rattle.std.proofs.Common.{Bool, sym, ◌∙◌}
use Rattle.std.specs.Prelude.{nat_lt}
use Rattle.blog_text.specs.Tables.{rows_in}
use Rattle.blog_text.specs.code.Counted.{counts_in}
use Rattle.blog_trans.specs.Changes.{TableCount}
use Rattle.blog_trans.specs.code.IndexView.{table_counted}
use Rattle.blog_trans.proofs.Asking.{not-this, this-one}
use Rattle.undo_run.proofs.part.has_rows.Goals as goal

pub loop-n-preserved : goal.loop-n-preserved
loop-n-preserved g c =
    let test : TableCount → Bool = λ t. nat_lt 0 (rows_in t) in
    not-this test (counts_in c.args.index.now) c.loop-n.n (table_counted c.table.result) _ c.loop-n.invariant c.table.ensures (sym c.has_some.ensures ∙ c.if-has_some.false)

pub returns-then-has_some : goal.returns-then-has_some
returns-then-has_some g c =
    let test : TableCount → Bool = λ t. nat_lt 0 (rows_in t) in
    this-one test (counts_in c.args.index.now) c.loop-n.n (table_counted c.table.result) _ c.loop-n.invariant c.table.ensures (sym c.has_some.ensures ∙ c.if-has_some.true)
