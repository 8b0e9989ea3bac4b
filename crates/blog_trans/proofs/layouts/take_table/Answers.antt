use Rattle.std.proofs.Common.{◌≡◌, true, false, Some, None, Ok, rules, refl, sym, ap, ◌∙◌, inl, inr, slice_get}
use Rattle.std.specs.Prelude.{◌&&◌}
use Rattle.indexmap.specs.IndexMap.{get}
use Rattle.blog_event.specs.Fault.{fault_at}
use Rattle.blog_event.specs.File.{Placed}
use Rattle.blog_row.specs.code.LayoutView.{layout_columns, layout_seen}
use Rattle.blog_row.specs.TableMap.{layout_of, is_same_layout, map_names}
use Rattle.blog_trans.specs.declared.table_name.TableName.{TableName}
use Rattle.blog_trans.specs.Acceptance.{is_selected}
use Rattle.blog_trans.specs.Selection.{selection_of, is_wanted}
use Rattle.blog_trans.specs.code.CheckerView.{is_same_name}
use Rattle.blog_trans.specs.code.TablesView.{table_named, tables_known}
use Rattle.blog_trans.proofs.CheckingLayouts.{has_same, selected-is, selected-checks, layouts-taken}
use Rattle.blog_trans.proofs.TableNumbers.{inserted-number, tables-stay, tables-more}
use Rattle.blog_trans.proofs.layouts.take_table.Goals.{in_default-via-in-Some+else-not-same, in_default-via-in_default}
use Rattle.blog_trans.proofs.layouts.take_table.Goals as goal

pub returns-in-Some-clause-columns : goal.returns-in-Some-clause-columns
returns-in-Some-clause-columns g c = λ e earlier is names h.
    let sel = selection_of c.args.sel.now in
    let name : TableName = record { schema = c.schema-schema.result; table = c.table-table.result } in
    let named : table_named name ≡ (map_names c.args.map.now).table = λ i. record { schema = c.schema-schema.ensures i; name = c.table-table.ensures i } in
    let here : (is_wanted sel.database c.schema-schema.result.now && is_wanted sel.table c.table-table.result.now) ≡ true = search rules in
    let selected : is_selected sel e.body ≡ true = selected-is sel e.body name (map_names c.args.map.now) names named ∙ here in
    let layout_is : layout_of e.body ≡ Ok (layout_columns c.in_ok-layout.layout) = sym (c.layout.ensures.body e.body names) ∙ ap layout_seen c.in_ok-layout.ensures in
    let known : get is_same_name c.args.layouts.now name ≡ Some c.in-Some.known = sym c.in_ok-number.ensures.old ∙ c.in-Some.is in
    let other : is_same_layout (layout_columns c.in-Some.known) (layout_columns c.in_ok-layout.layout) ≡ false = search rules in
    rw selected (inr (ap (fault_at c.args.pos) (selected-checks sel (record { pos = c.args.pos; event = e }) earlier c.args.layouts.now name (map_names c.args.map.now) c.in_ok-layout.layout false
    names named selected layout_is h (rw known other))))

pub returns-in_default-clause-columns : goal.returns-in_default-clause-columns
returns-in_default-clause-columns g c = λ e earlier is names h.
    let sel = selection_of c.args.sel.now in
    let p : Placed = record { pos = c.args.pos; event = e } in
    let name : TableName = record { schema = c.schema-schema.result; table = c.table-table.result } in
    let named : table_named name ≡ (map_names c.args.map.now).table = λ i. record { schema = c.schema-schema.ensures i; name = c.table-table.ensures i } in
    let here : (is_wanted sel.database c.schema-schema.result.now && is_wanted sel.table c.table-table.result.now) ≡ true = search rules in
    let selected : is_selected sel e.body ≡ true = selected-is sel e.body name (map_names c.args.map.now) names named ∙ here in
    let layout_is : layout_of e.body ≡ Ok (layout_columns c.in_ok-layout.layout) = sym (c.layout.ensures.body e.body names) ∙ ap layout_seen c.in_ok-layout.ensures in
    let fits : has_same (get is_same_name c.args.layouts.now name) c.in_ok-layout.layout ≡ true =
    elim c.in_default.branch [
      | in_default-via-in-Some+else-not-same w ↦
          let known : get is_same_name c.args.layouts.now name ≡ Some w.in-Some.known = sym c.in_ok-number.ensures.old ∙ w.in-Some.is in
          let same : is_same_layout (layout_columns w.in-Some.known) (layout_columns c.in_ok-layout.layout) ≡ true = search rules in
          rw known same
      | in_default-via-in_default w ↦
          let none : get is_same_name c.args.layouts.now name ≡ None = sym c.in_ok-number.ensures.old ∙ w.in_default.is in
          rw none refl
    ] in (
      rw (selected, layout_is) refl,
      λ s. rw layout_is refl,
      rw selected (selected-checks sel p earlier c.args.layouts.now name (map_names c.args.map.now) c.in_ok-layout.layout true names named selected layout_is h fits),
      layouts-taken sel p earlier c.args.layouts.now c.insert_full.new.self name (map_names c.args.map.now) c.in_ok-layout.layout (rw is refl) names (sym named) layout_is fits c.in_ok-number.ensures.updates.0 h,
    )

pub returns-in_default-clause-number : goal.returns-in_default-clause-number
returns-in_default-clause-number g c =
    let name : TableName = record { schema = c.schema-schema.result; table = c.table-table.result } in
    let named : table_named name ≡ (map_names c.args.map.now).table = λ i. record { schema = c.schema-schema.ensures i; name = c.table-table.ensures i } in
    ap (slice_get (tables_known c.insert_full.new.self)) c.in_ok-number.ensures.index
    ∙ inserted-number c.args.layouts.now c.insert_full.new.self name c.in_ok-layout.layout c.in_ok-number.ensures.entries
    ∙ ap Some named

pub returns-in_default-clause-grown : goal.returns-in_default-clause-grown
returns-in_default-clause-grown g c =
    let name : TableName = record { schema = c.schema-schema.result; table = c.table-table.result } in
    let entries = c.in_ok-number.ensures.entries in
    elim c.in_default.branch [
      | in_default-via-in-Some+else-not-same w ↦
          inl (tables-stay c.args.layouts.now c.insert_full.new.self name c.in_ok-layout.layout w.in-Some.known (sym c.in_ok-number.ensures.old ∙ w.in-Some.is) entries)
      | in_default-via-in_default w ↦
          let more = tables-more c.args.layouts.now c.insert_full.new.self name c.in_ok-layout.layout (sym c.in_ok-number.ensures.old ∙ w.in_default.is) entries in
          inr (table_named name, more.0, more.1)
    ]
