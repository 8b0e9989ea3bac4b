use Rattle.std.proofs.Common.{Bool, sym, ap, ◌∙◌}
use Rattle.blog_text.specs.code.Counted.{counts_in}
use Rattle.blog_trans.specs.Changes.{TableCount}
use Rattle.blog_trans.specs.code.IndexView.{table_counted}
use Rattle.blog_trans.proofs.Asking.{not-this, this-one}
use Rattle.undo_run.specs.Reports.{has_followers, turned}
use Rattle.undo_run.proofs.reports.has_any_followers.Goals as goal

pub loop-n-preserved : goal.loop-n-preserved
loop-n-preserved g c =
    let test : TableCount → Bool = λ t. has_followers (turned c.args.order t) in
    not-this test (counts_in c.args.index.now) c.loop-n.n (table_counted c.table.result) _ c.loop-n.invariant c.table.ensures
    (ap has_followers (sym c.turned.ensures) ∙ sym c.has_followers.ensures ∙ c.if-has_followers.false)

pub returns-then-has_followers : goal.returns-then-has_followers
returns-then-has_followers g c =
    let test : TableCount → Bool = λ t. has_followers (turned c.args.order t) in
    this-one test (counts_in c.args.index.now) c.loop-n.n (table_counted c.table.result) _ c.loop-n.invariant c.table.ensures
    (ap has_followers (sym c.turned.ensures) ∙ sym c.has_followers.ensures ∙ c.if-has_followers.true)
