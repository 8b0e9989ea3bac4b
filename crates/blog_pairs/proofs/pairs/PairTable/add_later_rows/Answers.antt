use Rattle.std.proofs.Common.{false, refl, sym, ap, ◌∙◌}
use Rattle.blog_later.specs.code.EventChanges.{images_changes}
use Rattle.blog_row.specs.code.LayoutView.{layout_columns}
use Rattle.blog_trans.specs.Changes.{table_of}
use Rattle.blog_pairs.specs.Steps.{pairs_with}
use Rattle.blog_pairs.specs.code.EventRows.{event_rows}
use Rattle.blog_pairs.specs.code.PairsView.{bodies_of, pairs_in}
use Rattle.blog_pairs.proofs.Tabled.{group_changes, table_fits, with_rows}
use Rattle.blog_pairs.proofs.Unheld.{table_held, table_new, unheld_rows}
use Rattle.blog_pairs.proofs.pairs.PairTable.add_later_rows.Goals as goal

pub returns-in_default : goal.returns-in_default
returns-in_default g c =
    let self = c.args.self.now in
    let bodies = bodies_of self.tables.items in
    let group = c.args.group.now in
    let body = group.map.body.now in
    let slots = self.held.slots.items in
    let new = table_new c.deref.result.now self.tables.items body (layout_columns c.layout-layout.result) c.in_ok-table.field-0 c.deref.ensures.value c.in_ok-table.ensures c.in_default.is in
    sym (unheld_rows bodies body (layout_columns group.rows.layout) (event_rows group.rows) slots self.kept.numbered new)
    ∙ ap (λ cs. pairs_with false cs (pairs_in bodies slots)) (sym (group_changes group c.requires))

pub invariant_of-self : goal.invariant_of-self
invariant_of-self g c =
    let self = c.args.self.now in
    let bodies = bodies_of self.tables.items in
    let body = c.args.group.now.map.body.now in
    let columns = layout_columns c.layout-layout.result in
    let table = c.in-Some.table in
    let is = table_held c.deref.result.now self.tables.items body columns c.in_ok-table.field-0 table c.deref.ensures.value c.in_ok-table.ensures c.in-Some.is in
    record {
      apart = self.apart;
      kept = (c.add_later_rows.ensures.fits bodies (table_fits bodies self.held body columns table self.apart self.kept is)).kept;
    }

pub returns : goal.returns
returns g c =
    let self = c.args.self.now in
    let bodies = bodies_of self.tables.items in
    let group = c.args.group.now in
    let body = group.map.body.now in
    let columns = layout_columns c.layout-layout.result in
    let table = c.in-Some.table in
    let is = table_held c.deref.result.now self.tables.items body columns c.in_ok-table.field-0 table c.deref.ensures.value c.in_ok-table.ensures c.in-Some.is in
    let fits = table_fits bodies self.held body columns table self.apart self.kept is in
    let pairs = pairs_in bodies self.held.slots.items in
    let rows = event_rows group.rows in
    with_rows false bodies body columns table rows pairs pairs _ is refl (c.in_ok-add_later_rows.ensures.done bodies fits)
    ∙ ap (λ l. pairs_with false (images_changes (table_of body) (layout_columns l) rows) pairs) c.layout-layout.ensures
    ∙ ap (λ cs. pairs_with false cs pairs) (sym (group_changes group c.requires))
