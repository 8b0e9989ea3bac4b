use Rattle.std.proofs.Common.{Bool, List, sym, ◌∙◌}
use Rattle.blog_trans.specs.Changes.{TableCount, counts_of}
use Rattle.blog_trans.specs.Groups.{groups}
use Rattle.blog_trans.specs.code.IndexView.{index_bytes, index_selection, table_counted}
use Rattle.blog_choice.specs.Choice.{chooses}
use Rattle.blog_choice.specs.code.Views.{choice_value}
use Rattle.blog_trans.proofs.Asking.{not-this, this-one}
use Rattle.blog_request.proofs.wanted.changes_chosen.Goals as goal

pub loop-n-preserved : goal.loop-n-preserved
loop-n-preserved g c =
    let counts : List TableCount = counts_of (groups (index_bytes c.args.index.now) (index_selection c.args.index.now)) in
    let test : TableCount → Bool = λ t. chooses (choice_value c.args.choice.now) t.table.schema t.table.name in
    not-this test counts c.loop-n.n (table_counted c.table-count.result) _ c.loop-n.invariant c.table-count.ensures (sym c.has.ensures ∙ c.if-has.false)

pub returns-then-has : goal.returns-then-has
returns-then-has g c =
    let counts : List TableCount = counts_of (groups (index_bytes c.args.index.now) (index_selection c.args.index.now)) in
    let test : TableCount → Bool = λ t. chooses (choice_value c.args.choice.now) t.table.schema t.table.name in
    this-one test counts c.loop-n.n (table_counted c.table-count.result) _ c.loop-n.invariant c.table-count.ensures (sym c.has.ensures ∙ c.if-has.true)
