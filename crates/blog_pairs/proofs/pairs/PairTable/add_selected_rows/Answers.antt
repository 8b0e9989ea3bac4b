use Rattle.std.proofs.Common.{true, sym, ap, ◌∙◌}
use Rattle.blog_later.specs.code.EventChanges.{images_changes}
use Rattle.blog_row.specs.code.LayoutView.{layout_columns}
use Rattle.blog_trans.specs.Changes.{table_of}
use Rattle.blog_pairs.specs.Steps.{pairs_with, unmarked}
use Rattle.blog_pairs.specs.code.EventRows.{event_rows}
use Rattle.blog_pairs.specs.code.PairsView.{bodies_of, pairs_in}
use Rattle.blog_pairs.proofs.Holding.{kept_more}
use Rattle.blog_pairs.proofs.Tabled.{group_long, group_unmarked, table_fits, told_same, with_rows}
use Rattle.blog_pairs.proofs.pairs.PairTable.add_selected_rows.Goals as goal

pub invariant_of-self : goal.invariant_of-self
invariant_of-self g c = record {
  apart = c.selected_table.ensures.apart;
  kept = kept_more (bodies_of c.args.self.now.tables.items) (bodies_of c.selected_table.new.tables.items) c.args.self.now.held c.selected_table.ensures.more c.args.self.now.kept;
}

pub invariant_of-self-2 : goal.invariant_of-self-2
invariant_of-self-2 g c =
    let held = c.args.self.now.held in
    let all = bodies_of c.selected_table.new.tables.items in
    let kept = kept_more (bodies_of c.args.self.now.tables.items) all held c.selected_table.ensures.more c.args.self.now.kept in
    let fits = table_fits all held c.args.group.now.map.body.now (layout_columns c.layout-layout.result) c.in_ok-table.table c.selected_table.ensures.apart kept c.in_ok-table.ensures.table in
    record {
      apart = c.selected_table.ensures.apart;
      kept = (c.add_selected_rows.ensures.fits all fits).kept;
    }

pub add_selected_rows-requires : goal.add_selected_rows-requires
add_selected_rows-requires g c = c.requires.each ∙ group_long c.args.group.now c.requires.by_map

pub returns : goal.returns
returns g c =
    let held = c.args.self.now.held in
    let bodies = bodies_of c.args.self.now.tables.items in
    let all = bodies_of c.selected_table.new.tables.items in
    let group = c.args.group.now in
    let body = group.map.body.now in
    let columns = layout_columns c.layout-layout.result in
    let table = c.in_ok-table.table in
    let more = c.selected_table.ensures.more in
    let is = c.in_ok-table.ensures.table in
    let old = pairs_in bodies held.slots.items in
    let rows = unmarked c.args.marks.now (event_rows group.rows) in
    let fits = table_fits all held body columns table c.selected_table.ensures.apart (kept_more bodies all held more c.args.self.now.kept) is in
    with_rows true all body columns table rows old (pairs_in all held.slots.items) _ is (told_same bodies all held more c.args.self.now.kept) (c.in_ok-add_selected_rows.ensures.done all fits)
    ∙ ap (λ l. pairs_with true (images_changes (table_of body) (layout_columns l) rows) old) c.layout-layout.ensures
    ∙ ap (λ cs. pairs_with true cs old) (sym (group_unmarked group c.args.marks.now c.requires.by_map))
