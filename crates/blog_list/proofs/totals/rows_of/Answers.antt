use Rattle.std.proofs.Common.{◌+◌, List, drop, ap, arith}
use Rattle.std.proofs.lemmas.List.{drop_all}
use Rattle.blog_trans.specs.Changes.{TableCount, counts_of}
use Rattle.blog_trans.specs.Groups.{groups}
use Rattle.blog_trans.specs.code.IndexView.{index_bytes, index_selection, table_counted}
use Rattle.blog_trans.proofs.Turns.{drop-at}
use Rattle.blog_list.specs.Lines.{rows_of}
use Rattle.blog_list.proofs.Growing.{rows-more, no-more}
use Rattle.blog_list.proofs.totals.rows_of.Goals as goal

pub loop-n-preserved : goal.loop-n-preserved
loop-n-preserved g c =
    let counts : List TableCount = counts_of (groups (index_bytes c.args.index.now) (index_selection c.args.index.now)) in
    let next = ap rows_of (drop-at counts c.loop-n.n (table_counted c.table.result) c.table.ensures) in
    record {
      sum_is = rows-more c.loop-n.rows (c.table.result.inserts + (c.table.result.updates + c.table.result.deletes)) c.with_rows-rows.result (rows_of (drop (c.loop-n.n + 1) counts)) (rows_of (drop c.loop-n.n counts)) _
          c.with_rows-rows.ensures next c.loop-n.invariant.sum_is;
      fits = omega (arith, c.with_rows-rows.ensures);
    }

pub returns : goal.returns
returns g c =
    let counts : List TableCount = counts_of (groups (index_bytes c.args.index.now) (index_selection c.args.index.now)) in
    no-more c.loop-n.rows (rows_of (drop c.loop-n.n counts)) _ c.loop-n.invariant.fits (ap rows_of (drop_all c.loop-n.n counts (omega (arith, c.tables-n-end.ensures, c.loop-n-test.false)))) c.loop-n.invariant.sum_is
