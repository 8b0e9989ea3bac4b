use Rattle.std.proofs.Common.{◌+◌, Bool, List, drop, ap, arith, sym, ◌∙◌}
use Rattle.std.specs.Prelude.{filter}
use Rattle.std.proofs.lemmas.List.{drop_all}
use Rattle.blog_choice.specs.Choice.{chooses}
use Rattle.blog_choice.specs.code.Views.{choice_value}
use Rattle.blog_trans.specs.Changes.{TableCount, counts_of}
use Rattle.blog_trans.specs.Groups.{groups}
use Rattle.blog_trans.specs.code.IndexView.{index_bytes, index_selection, table_counted}
use Rattle.blog_list.specs.Lines.{rows_of}
use Rattle.blog_list.proofs.Growing.{chosen-less, chosen-more, no-more}
use Rattle.blog_list.proofs.ranking.chosen_rows.Goals.{then-has, else-has}
use Rattle.blog_list.proofs.ranking.chosen_rows.Goals as goal

pub loop-n-preserved : goal.loop-n-preserved
loop-n-preserved g c =
    let counts : List TableCount = counts_of (groups (index_bytes c.args.index.now) (index_selection c.args.index.now)) in
    let test : TableCount → Bool = λ t. chooses (choice_value c.args.choice.now) t.table.schema t.table.name in
    elim c.if-has.branch [
      | then-has w ↦ rw w.rows-is (record {
        sum_is = chosen-more test counts c.loop-n.n (table_counted c.table-count.result) c.loop-n.rows w.with_rows-rows.result _ c.table-count.ensures (sym c.has.ensures ∙ w.if-has.true) w.with_rows-rows.ensures c.loop-n.invariant.sum_is;
        fits = omega (arith, w.with_rows-rows.ensures);
      })
      | else-has w ↦ rw w.rows-is (record {
        sum_is = chosen-less test counts c.loop-n.n (table_counted c.table-count.result) c.loop-n.rows _ c.table-count.ensures (sym c.has.ensures ∙ w.if-has.false) c.loop-n.invariant.sum_is;
        fits = c.loop-n.invariant.fits;
      })
    ]

pub returns : goal.returns
returns g c =
    let counts : List TableCount = counts_of (groups (index_bytes c.args.index.now) (index_selection c.args.index.now)) in
    let test : TableCount → Bool = λ t. chooses (choice_value c.args.choice.now) t.table.schema t.table.name in
    no-more c.loop-n.rows (rows_of (filter test (drop c.loop-n.n counts))) _ c.loop-n.invariant.fits
    (ap (λ (cs : List TableCount). rows_of (filter test cs)) (drop_all c.loop-n.n counts (omega (arith, c.tables-n-end.ensures, c.loop-n-test.false)))) c.loop-n.invariant.sum_is
