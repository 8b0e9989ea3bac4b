use Rattle.std.proofs.Common.{List, ◌++◌, sym, ap, ◌∙◌, arith}
use Rattle.std.proofs.lemmas.Result.{on_ok_weaker}
use Rattle.blog_trans.specs.code.IndexView.{table_counted}
use Rattle.blog_text.specs.code.Counted.{counts_in}
use Rattle.blog_text.proofs.Largest.{one-table}
use Rattle.blog_text.proofs.tables.put_rows.Goals as goal

pub returns-in-1 : goal.returns-in-1
returns-in-1 g c =
    let one = one-table c.args.room (counts_in c.args.index.now) (table_counted c.table.result) (omega (arith, c.tables.ensures, c.in-1.is)) c.table.ensures in
    on_ok_weaker c.put_count.result (λ put. put ∙ ap (λ (text : List _). c.args.out.now.items ++ text) (sym one)) c.put_count.ensures
