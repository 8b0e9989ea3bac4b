use Rattle.std.proofs.Common.{false, refl, sym}
use Rattle.blog_row.specs.code.LayoutView.{layout_columns}
use Rattle.blog_row.specs.code.RowsView.{row_seen}
use Rattle.blog_pairs.specs.code.PairsView.{bodies_of, pairs_in}
use Rattle.blog_pairs.proofs.Tabled.{table_fits, with_row}
use Rattle.blog_pairs.proofs.Unheld.{table_held, table_new, unheld_row}
use Rattle.blog_pairs.proofs.pairs.PairTable.add_later.Goals as goal

pub returns-in_default-clause-done : goal.returns-in_default-clause-done
returns-in_default-clause-done g c =
    let self = c.args.self.now in
    let body = c.args.body.now in
    let columns = layout_columns c.args.layout.now in
    let row = row_seen c.args.row.now in
    let new = table_new c.deref.result.now self.tables.items body columns c.in_ok-table.field-0 c.deref.ensures.value c.in_ok-table.ensures c.in_default.is in
    sym (unheld_row (bodies_of self.tables.items) body columns row.before row.after self.held.slots.items self.kept.numbered new)

pub invariant_of-self : goal.invariant_of-self
invariant_of-self g c =
    let self = c.args.self.now in
    let bodies = bodies_of self.tables.items in
    let body = c.args.body.now in
    let columns = layout_columns c.args.layout.now in
    let table = c.in-Some.table in
    let is = table_held c.deref.result.now self.tables.items body columns c.in_ok-table.field-0 table c.deref.ensures.value c.in_ok-table.ensures c.in-Some.is in
    record {
      apart = self.apart;
      kept = (c.add_later.ensures.fits bodies (table_fits bodies self.held body columns table self.apart self.kept is)).kept;
    }

pub returns-clause-done : goal.returns-clause-done
returns-clause-done g c =
    let self = c.args.self.now in
    let bodies = bodies_of self.tables.items in
    let body = c.args.body.now in
    let columns = layout_columns c.args.layout.now in
    let row = row_seen c.args.row.now in
    let table = c.in-Some.table in
    let is = table_held c.deref.result.now self.tables.items body columns c.in_ok-table.field-0 table c.deref.ensures.value c.in_ok-table.ensures c.in-Some.is in
    let fits = table_fits bodies self.held body columns table self.apart self.kept is in
    let pairs = pairs_in bodies self.held.slots.items in
    with_row false bodies body columns table row.before row.after pairs pairs _ is refl (c.in_ok-add_later.ensures.done bodies fits)
