use Rattle.std.proofs.Common.{List, ◌++◌, refl, ap, ◌∙◌}
use Rattle.std.specs.List.{flat_map}
use Rattle.blog_text.specs.Tables.{count_text}
use Rattle.blog_text.specs.code.Counted.{counts_in}
use Rattle.blog_text.proofs.Growing.{both-parts, next-part}
use Rattle.blog_trans.specs.Changes.{TableCount}
use Rattle.blog_trans.specs.code.IndexView.{table_counted}
use Rattle.blog_trans.proofs.Turns.{drop-at}
use Rattle.undo_run.specs.Reports.{next_told, rows_told, turned}
use Rattle.undo_run.proofs.reports.put_rows.Goals as goal

pub loop-n-init : goal.loop-n-init
loop-n-init g c =
    let counts : List TableCount = counts_in c.args.index.now in
    let here : TableCount = table_counted c.table.result in
    next-part c.args.out.now.items _ _ (count_text (turned c.args.order here)) _ c.put_count.new.out.items refl (ap (rows_told c.args.order) (drop-at counts 0 here c.table.ensures))
    (c.in_ok-put_count.ensures ∙ ap (λ (t : TableCount). c.args.out.now.items ++ count_text t) c.turned.ensures)

pub loop-n-preserved : goal.loop-n-preserved
loop-n-preserved g c =
    let counts : List TableCount = counts_in c.args.index.now in
    let here : TableCount = table_counted c.table-in-loop-n.result in
    let next = ap (flat_map (next_told c.args.order)) (drop-at counts c.loop-n.n here c.table-in-loop-n.ensures) in
    next-part c.loop-n.out.items _ _ (next_told c.args.order here) _ c.put_count-in-loop-n.new.out.items c.loop-n.invariant next
    (both-parts _ _ _ _ _ c.in_ok-put_text.ensures (c.in_ok-put_count-2.ensures ∙ ap (λ (t : TableCount). c.put_text.new.out.items ++ count_text t) c.turned-in-loop-n.ensures))
