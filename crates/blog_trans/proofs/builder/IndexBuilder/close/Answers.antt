use Rattle.std.proofs.Common.{sym, subst, ◌++◌}
use Rattle.blog_trans.specs.Changes.{table_of}
use Rattle.blog_trans.specs.code.ListsView.{open_behind, closed_by}
use Rattle.blog_trans.specs.code.TablesView.{tables_known}
use Rattle.blog_trans.specs.code.StatementMaps.{used_of}
use Rattle.blog_trans.specs.code.CountsView.{AreCounts}
use Rattle.blog_trans.specs.code.BuilderView.{progress_changes, progress_tables}
use Rattle.blog_trans.proofs.BuilderCode.{closed-counts, used-held}
use Rattle.blog_trans.proofs.builder.IndexBuilder.close.Goals as goal

pub returns-clause-kept : goal.returns-clause-kept
returns-clause-kept g c = λ sel statement earlier done o knows none keeps.
    let checker = c.args.self.now.checker in
    let known = tables_known checker.layouts in
    let before = open_behind done o in
    let after = open_behind done (closed_by (used_of sel statement) o) in (
      c.close-2.ensures.known sel statement earlier knows,
      record {
        lists = c.in_ok-close.ensures.kept done o (used_of sel statement) (used-held (λ at body. at) checker sel statement earlier knows) keeps.lists;
        counts = subst (λ layouts. AreCounts (tables_known layouts) (progress_changes after) (progress_tables after) c.keep.new.self) (sym c.close-2.ensures.layouts)
            (closed-counts known c.keep.new.self done o (used_of sel statement) none
            (subst (λ ts. AreCounts known (progress_changes before) (progress_tables before ++ ts) c.keep.new.self) (used-held (λ at body. table_of body) checker sel statement earlier knows)
            (c.in_ok-keep.ensures.counts known (progress_changes before) (progress_tables before) knows.numbered keeps.counts)));
      },
    )
