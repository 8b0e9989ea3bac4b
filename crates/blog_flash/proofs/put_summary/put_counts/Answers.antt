use Rattle.std.proofs.Common.{List, ap, arith}
use Rattle.std.specs.List.{flat_map}
use Rattle.std.proofs.lemmas.List.{drop_all}
use Rattle.blog_trans.specs.Changes.{TableCount, counts_of}
use Rattle.blog_trans.specs.Groups.{groups}
use Rattle.blog_trans.specs.code.IndexView.{index_bytes, index_selection, table_counted}
use Rattle.blog_flash.specs.Printed.{count_line}
use Rattle.blog_trans.proofs.Turns.{drop-at}
use Rattle.blog_flash.proofs.Printing.{next-part, no-part, has-room}
use Rattle.blog_flash.proofs.put_summary.put_counts.Goals as goal

pub loop-n-preserved : goal.loop-n-preserved
loop-n-preserved g c =
    let next = ap (flat_map count_line) (drop-at _ c.loop-n.n (table_counted c.table.result) c.table.ensures) in
    record { text = next-part _ _ _ _ _ _ c.loop-n.invariant.text next c.in_ok-put_table_count.ensures.ok; capacity = omega arith }

pub returns-clause-ok : goal.returns-clause-ok
returns-clause-ok g c =
    let counts : List TableCount = counts_of (groups (index_bytes c.args.index.now) (index_selection c.args.index.now)) in
    no-part _ _ _ c.loop-n.invariant.text (ap (flat_map count_line) (drop_all c.loop-n.n counts (omega (arith, c.tables-n-end.ensures, c.loop-n-test.false))))

pub returns-in_err-put_table_count-clause-room : goal.returns-in_err-put_table_count-clause-room
returns-in_err-put_table_count-clause-room g c enough =
    let next = ap (flat_map count_line) (drop-at _ c.loop-n.n (table_counted c.table.result) c.table.ensures) in
    has-room _ _ _ _ (count_line (table_counted c.table.result)) _ _ _ _ _ _ _ c.in_err-put_table_count.was c.put_table_count.ensures.room
    c.loop-n.invariant.text next c.loop-n.out.ok.0 c.args.out.now.ok.0 c.loop-n.invariant.capacity enough
