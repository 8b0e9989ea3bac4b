use Rattle.std.proofs.Common.{◌+◌, List, drop, refl, sym, ap, ◌∙◌, arith}
use Rattle.std.proofs.lemmas.List.{drop_all}
use Rattle.blog_choice.specs.Choice.{Choice}
use Rattle.blog_choice.specs.code.Views.{choice_value}
use Rattle.blog_report.specs.code.ReportView.{said_of}
use Rattle.blog_report.specs.declared.sums.RowSums.{RowSums}
use Rattle.blog_trans.specs.Changes.{TableCount, counts_of}
use Rattle.blog_trans.specs.Groups.{groups}
use Rattle.blog_trans.specs.code.IndexView.{index_bytes, index_selection, table_counted}
use Rattle.blog_trans.proofs.Turns.{drop-at}
use Rattle.show_run.specs.Reported.{chosen, with_tables}
use Rattle.show_run.proofs.Reporting.{rows-all, rows-first, rows_on, tables-first}
use Rattle.show_run.proofs.source_report.add_tables.Goals as goal

pub loop-n-init : goal.loop-n-init
loop-n-init g c =
    let counts : List TableCount = counts_of (groups (index_bytes c.args.index.now) (index_selection c.args.index.now)) in
    record {
      is = refl;
      whole = λ w. w;
      sum_is = ap (λ (rows : RowSums). rows_on rows (chosen (choice_value c.args.choice.now) counts)) c.none-rows.ensures;
    }

pub loop-n-preserved : goal.loop-n-preserved
loop-n-preserved g c =
    let counts : List TableCount = counts_of (groups (index_bytes c.args.index.now) (index_selection c.args.index.now)) in
    let choice : Choice = choice_value c.args.choice.now in
    let next = drop-at counts c.loop-n.n (table_counted c.table.result) c.table.ensures in
    let later : List TableCount = drop (c.loop-n.n + 1) counts in
    record {
      is = ap (with_tables (chosen choice later)) c.in_ok-sum.ensures.said.is ∙ sym (tables-first choice (table_counted c.table.result) later (said_of c.loop-n.report))
          ∙ sym (ap (λ (cs : List TableCount). with_tables (chosen choice cs) (said_of c.loop-n.report)) next) ∙ c.loop-n.invariant.is;
      whole = λ w. c.in_ok-sum.ensures.said.whole (c.loop-n.invariant.whole w);
      sum_is = ap (λ (rows : RowSums). rows_on rows (chosen choice later)) c.in_ok-sum.ensures.rows ∙ sym (rows-first choice (table_counted c.table.result) later c.loop-n.rows)
          ∙ sym (ap (λ (cs : List TableCount). rows_on c.loop-n.rows (chosen choice cs)) next) ∙ c.loop-n.invariant.sum_is;
    }

pub returns-clause-said : goal.returns-clause-said
returns-clause-said g c =
    let counts : List TableCount = counts_of (groups (index_bytes c.args.index.now) (index_selection c.args.index.now)) in
    let choice : Choice = choice_value c.args.choice.now in
    let none = drop_all c.loop-n.n counts (omega (arith, c.tables-n-end.ensures, c.loop-n-test.false)) in
    record {
      is = sym (ap (λ (cs : List TableCount). with_tables (chosen choice cs) (said_of c.loop-n.report)) none) ∙ c.loop-n.invariant.is;
      whole = c.loop-n.invariant.whole;
    }

pub returns-clause-rows : goal.returns-clause-rows
returns-clause-rows g c =
    let counts : List TableCount = counts_of (groups (index_bytes c.args.index.now) (index_selection c.args.index.now)) in
    let choice : Choice = choice_value c.args.choice.now in
    let none = drop_all c.loop-n.n counts (omega (arith, c.tables-n-end.ensures, c.loop-n-test.false)) in
    sym (ap (λ (cs : List TableCount). rows_on c.loop-n.rows (chosen choice cs)) none) ∙ c.loop-n.invariant.sum_is ∙ rows-all (chosen choice counts)
