use Rattle.std.proofs.Common.{sym, subst}
use Rattle.blog_trans.specs.Groups.{rows_value}
use Rattle.blog_trans.specs.code.ListsView.{open_behind}
use Rattle.blog_trans.specs.code.TablesView.{tables_known}
use Rattle.blog_trans.specs.code.CheckerView.{IsKept}
use Rattle.blog_trans.specs.code.CountsView.{AreCounts}
use Rattle.blog_trans.specs.code.BuilderView.{progress_changes, progress_tables}
use Rattle.blog_trans.proofs.BuilderCode.{changes-rows}
use Rattle.blog_trans.proofs.BuilderSteps.{kept-some}
use Rattle.blog_trans.proofs.builder.IndexBuilder.keep.Goals as goal

pub returns-in_ok-count-clause-kept : goal.returns-in_ok-count-clause-kept
returns-in_ok-count-clause-kept g c = λ done o r is keeps.
    let known = tables_known c.args.self.now.checker.layouts in
    let before = open_behind done o in
    kept-some known c.args.at c.in-Some.kept r done o _ (λ x (at, map, number, kind, images). record {
      lists = c.in_ok-rows.ensures.kept done o x (sym at) (sym map) keeps.lists;
      counts = subst (λ cs. AreCounts known cs (progress_tables before) c.count.new.self) (changes-rows done o x)
          (c.in_ok-count.ensures.counts known (progress_changes before) (progress_tables before) (rows_value x) keeps.counts (sym kind) number (sym images));
    }) (subst (λ kept. IsKept known c.args.at kept r) c.in-Some.is is)
