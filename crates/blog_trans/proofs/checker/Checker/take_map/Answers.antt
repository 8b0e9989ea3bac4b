use Rattle.std.proofs.Common.{◌≡◌, ℕ, true, false, Some, None, rules, refl, sym, subst, ap, ◌∙◌}
use Rattle.std.specs.Prelude.{nat_eq, not, IfOk}
use Rattle.std.specs.List.{list_any}
use Rattle.indexmap.specs.IndexMap.{get}
use Rattle.indexmap.proofs.CallerLemmas.{insert_entry-new}
use Rattle.blog_event.specs.Event.{event_of}
use Rattle.blog_event.specs.File.{Placed}
use Rattle.blog_row.specs.TableMap.{HasNames, Names, names_of, map_names, map_seen}
use Rattle.blog_trans.specs.Places.{is_inside, is_map_of, since}
use Rattle.blog_trans.specs.Selection.{Selection, selection_of}
use Rattle.blog_trans.specs.code.TablesView.{tables_known}
use Rattle.blog_trans.proofs.TableNumbers.{new-numbered}
use Rattle.blog_trans.specs.declared.checker.MapSeen.{MapSeen}
use Rattle.blog_row.specs.RowsEvent.{table_id}
use Rattle.blog_trans.proofs.Checking.{or-bad-some, map-passed, new-facts, knows-map-seen, knows-map-new}
use Rattle.blog_trans.proofs.checker.Checker.take_map.Goals as goal

pub returns-in_ok-insert-clause-checked : goal.returns-in_ok-insert-clause-checked
returns-in_ok-insert-clause-checked g c = λ earlier h.
    let sel : Selection = selection_of c.args.sel.now in
    let e = event_of c.args.event.now in
    let p : Placed = record { pos = c.args.event.now.pos; event = e } in
    let n : Names = map_names c.in_ok-map.map in
    let names : names_of e.body ≡ Some n = or-bad-some (names_of e.body) n (sym c.read.ensures.exact ∙ ap map_seen c.in_ok-map.ensures) in
    let has : HasNames e.body n = subst (λ r. IfOk r (λ map. HasNames e.body (map_names map))) c.in_ok-map.ensures c.read.ensures.found in
    let now : is_inside c.args.self.now.place ≡ true = search rules in
    let columns = c.in_ok-table.ensures.columns e earlier c.requires.kind names h.layouts_agree in
    let m = map-passed sel p earlier n _ c.requires.kind c.are_bytes.ensures has names (ap is_inside (sym h.place_is) ∙ now) (c.in_ok-first.ensures.compared sel (since earlier) earlier h) columns.1 columns.2 in
    let none : get nat_eq c.args.self.now.maps c.id.result ≡ None = ap (λ (k : ℕ). get nat_eq c.args.self.now.maps k) c.id.ensures ∙ c.in_ok-first.ensures.absent c.if-first.true in
    let new : list_any (is_map_of (table_id e.body)) (since earlier) ≡ false = m.unseen ∙ ap not c.if-first.true in
    let v : MapSeen = record { at = c.args.event.now.pos; body = c.args.event.now.body; table = c.in_ok-table.table; used = false } in
    let layouts = c.take_table.new.layouts in
    let last = new-facts sel p (since earlier) c.id.result v c.requires.kind h.passed new (c.id.ensures ∙ m.number) refl refl columns.0 refl in (
      m.fault,
      knows-map-new sel p earlier c.args.self.now _ c.requires.kind m.passed m.apart refl refl columns.3 c.in_ok-table.ensures.grown h c.id.result v new
          (c.in_ok-insert.ensures.entries ∙ insert_entry-new nat_eq c.args.self.now.maps c.id.result v none) (new-numbered (tables_known layouts) v n names c.in_ok-table.ensures.number refl) last,
    )

pub returns-else-first-clause-checked : goal.returns-else-first-clause-checked
returns-else-first-clause-checked g c = λ earlier h.
    let sel : Selection = selection_of c.args.sel.now in
    let e = event_of c.args.event.now in
    let p : Placed = record { pos = c.args.event.now.pos; event = e } in
    let n : Names = map_names c.in_ok-map.map in
    let names : names_of e.body ≡ Some n = or-bad-some (names_of e.body) n (sym c.read.ensures.exact ∙ ap map_seen c.in_ok-map.ensures) in
    let has : HasNames e.body n = subst (λ r. IfOk r (λ map. HasNames e.body (map_names map))) c.in_ok-map.ensures c.read.ensures.found in
    let now : is_inside c.args.self.now.place ≡ true = search rules in
    let columns = c.in_ok-table.ensures.columns e earlier c.requires.kind names h.layouts_agree in
    let m = map-passed sel p earlier n _ c.requires.kind c.are_bytes.ensures has names (ap is_inside (sym h.place_is) ∙ now) (c.in_ok-first.ensures.compared sel (since earlier) earlier h) columns.1 columns.2 in
    let there : list_any (is_map_of (table_id e.body)) (since earlier) ≡ true = m.unseen ∙ ap not c.if-first.false in (
      m.fault,
      knows-map-seen sel p earlier c.args.self.now _ c.requires.kind m.passed m.apart refl refl columns.3 c.in_ok-table.ensures.grown h there refl,
    )
