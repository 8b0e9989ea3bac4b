use Rattle.std.proofs.Common.{length, length-append, [], ◌∷◌, arith}
use Rattle.blog_trans.specs.Changes.{changes}
use Rattle.blog_trans.specs.code.IndexView.{index_bytes, index_selection}
use Rattle.blog_later.specs.Prints.{table_print}
use Rattle.blog_later.proofs.Numbered.{rows-more, tables-more}
use Rattle.blog_later.proofs.leaving.Leaving.add.Goals as goal

pub returns : goal.returns
returns g c = λ css has.
    let cs = changes (index_bytes c.args.index.now) (index_selection c.args.index.now) in
    let long = length-append css (cs ∷ []) in
    record {
      rows = rows-more css cs c.args.self.now.lists _ _ has.rows has.lists c.in_ok-put_prints.ensures.0;
      tables = tables-more (λ r. table_print r.table) css cs _ _ has.tables c.in_ok-put_prints.ensures.1;
      lists = omega (arith, long, has.lists, c.in-Some.ensures);
      few = omega (arith, long, has.lists, c.in-Some.ensures);
    }
