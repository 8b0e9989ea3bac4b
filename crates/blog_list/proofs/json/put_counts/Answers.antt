use Rattle.std.proofs.Common.{List, ap}
use Rattle.std.specs.List.{flat_map}
use Rattle.blog_trans.specs.Changes.{TableCount, counts_of}
use Rattle.blog_trans.specs.Groups.{groups}
use Rattle.blog_trans.specs.code.IndexView.{index_bytes, index_selection, table_counted}
use Rattle.blog_trans.proofs.Turns.{drop-at}
use Rattle.blog_list.specs.Json.{json_next}
use Rattle.blog_text.proofs.Growing.{both-parts, next-part}
use Rattle.blog_list.proofs.json.put_counts.Goals as goal

pub loop-n-preserved : goal.loop-n-preserved
loop-n-preserved g c =
    let counts : List TableCount = counts_of (groups (index_bytes c.args.index.now) (index_selection c.args.index.now)) in
    let here : TableCount = table_counted c.table-in-loop-n.result in
    let next = ap (flat_map json_next) (drop-at counts c.loop-n.n here c.table-in-loop-n.ensures) in
    next-part c.loop-n.out.items _ _ (json_next here) _ c.put_count-in-loop-n.new.out.items c.loop-n.invariant next (both-parts _ _ _ _ _ c.in_ok-put_text.ensures c.in_ok-put_count-2.ensures)
