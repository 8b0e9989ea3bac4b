use Rattle.std.proofs.Common.{◌+◌, drop, map}
use Rattle.blog_choice.specs.code.Views.{name_value}
use Rattle.blog_text.specs.code.Counted.{counts_in}
use Rattle.blog_trans.specs.code.IndexView.{table_counted}
use Rattle.blog_trans.proofs.Turns.{drop-at}
use Rattle.undo_run.proofs.Names.{names-more}
use Rattle.undo_run.proofs.tables.tables_named.Goals as goal

pub loop-n-preserved : goal.loop-n-preserved
loop-n-preserved g c =
    let counts = counts_in c.args.index.now in
    names-more (map name_value c.loop-n.names.items) _ _ (table_counted c.table.result) (drop c.loop-n.n counts) (drop (c.loop-n.n + 1) counts)
    (drop-at counts c.loop-n.n (table_counted c.table.result) c.table.ensures) c.in_ok-put_name.ensures c.loop-n.invariant
