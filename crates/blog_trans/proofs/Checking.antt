-- What is known after one more event.
use Rattle.std.proofs.Common.{◌≡◌, ℕ, Bool, true, false, List, [], ◌∷◌, ◌++◌, map, Option, Some, None, Ok, refl, sym, ap, ◌∙◌, arith}
use Rattle.std.specs.Prelude.{not, is_some, option_map, IsOk}
use Rattle.std.specs.Option.{option_map_or}
use Rattle.std.specs.List.{list_any, AllByRecursion}
use Rattle.std.proofs.lemmas.List.{map-append}
use Rattle.indexmap.specs.IndexMap.{values}
use Rattle.byteorder.specs.Endian.{little_number}
use Rattle.blog_event.specs.declared.fault.Fault.TheVariants.{BadBody, MapClash}
use Rattle.blog_event.specs.Fault.{needs, first_failing}
use Rattle.blog_event.specs.File.{Placed, AreBytes}
use Rattle.blog_row.specs.Checks.{or_bad}
use Rattle.blog_row.specs.code.LayoutView.{layout_columns}
use Rattle.blog_row.specs.TableMap.{Names, HasNames, names_of, layout_of}
use Rattle.blog_row.specs.RowsEvent.{table_id}
use Rattle.blog_row.specs.declared.event_kinds.EventKind.{EventKind}
use Rattle.blog_row.specs.declared.event_kinds.EventKind.TheVariants as kind
use Rattle.blog_row.specs.Kinds.{is_begin_kind, is_end_kind, is_map_kind, rows_of_kind}
use Rattle.blog_trans.specs.declared.checker.Checker.{Checker}
use Rattle.blog_trans.specs.declared.layouts.SelectedTable.{SelectedTable}
use Rattle.blog_trans.specs.declared.checker.MapSeen.{MapSeen}
use Rattle.blog_trans.specs.declared.place.Place.{Place}
use Rattle.blog_trans.specs.declared.place.Place.TheVariants.{Outside}
use Rattle.blog_trans.specs.Selection.{Selection}
use Rattle.blog_trans.specs.Acceptance.{clashes_by_id, end_checks, event_fault, is_selected}
use Rattle.blog_trans.specs.Places.{kind_at, is_begin, is_map, is_rows, is_map_of, leads_to, is_inside, place, since}
use Rattle.blog_trans.specs.code.TablesView.{tables_known, HaveGrown, IsNumbered}
use Rattle.blog_trans.specs.code.StatementMaps.{MapFacts, first_of_ids, facts_of, facts_held}
use Rattle.blog_trans.specs.code.CheckerView.{HasChecked, LayoutsAgree, IsPassed, IsPassedStatement, IsMapCompared, columns_known, column_checks}
use Rattle.blog_trans.proofs.ProgressFirsts.{and-false}
use Rattle.blog_trans.proofs.CheckingStatement.{facts-quiet, facts-kept, passed-quiet, passed-map}
use Rattle.blog_row.proofs.ReversedRows.{all-append}
use Rattle.blog_trans.proofs.CheckingMaps.{map-id, maps-more}
use Rattle.blog_trans.proofs.CheckingLayouts.{layouts-quiet}
use Rattle.blog_trans.proofs.TableNumbers.{numbered-grown}

-- an event that is neither `BEGIN`, a map nor a rows event
pub knows-quiet : {A : Type 0} (sel : Selection) (p : Placed) (earlier : List Placed) (checker : Checker A) (to : Place) → is_begin p ≡ false → is_map p ≡ false → is_rows p ≡ false
    → to ≡ place (p ∷ earlier) → HasChecked sel (since earlier) earlier checker → HasChecked sel (since (p ∷ earlier)) (p ∷ earlier) (record checker { place = to })
knows-quiet sel p earlier checker to no_begin no_map no_rows led h = rw (no_begin, no_rows) (record {
  place_is = led;
  open_is = rw no_rows h.open_is;
  maps_are = h.maps_are ∙ sym (facts-quiet sel p (since earlier) no_map no_rows);
  passed = passed-quiet sel p (since earlier) no_map no_rows h.passed;
  layouts_agree = layouts-quiet sel p earlier checker.layouts no_map h.layouts_agree;
  numbered = h.numbered;
})

-- ---- ends

-- what a `COMMIT` and an Xid have in common
end-kind : (k : EventKind) → is_end_kind k ≡ true → (is_begin_kind k ≡ false) × (is_map_kind k ≡ false) × (is_some (rows_of_kind k) ≡ false) × (leads_to k ≡ Some Outside)
end-kind k h = grind arith

-- an end passes inside, where the open statement has no rows event
pub end-passes : {A : Type 0} (sel : Selection) (p : Placed) (earlier : List Placed) (checker : Checker A) → is_end_kind (kind_at p) ≡ true → is_inside checker.place ≡ true → checker.has_rows ≡ false
    → HasChecked sel (since earlier) earlier checker
    → (first_failing (end_checks earlier) ≡ None) × HasChecked sel (since (p ∷ earlier)) (p ∷ earlier) (record checker { place = Outside })
end-passes sel p earlier checker is_end inside no_rows h =
    let k = end-kind (kind_at p) is_end in
    let in_place : is_inside (place earlier) ≡ true = ap is_inside (sym h.place_is) ∙ inside in
    let none : list_any is_rows (since earlier) ≡ false = sym h.open_is ∙ no_rows in
    let led : Outside ≡ place (p ∷ earlier) = sym (ap (λ o. option_map_or (λ led. led) o (place earlier)) k.3) in
    (rw (in_place, none) refl, knows-quiet sel p earlier checker Outside k.0 k.1 k.2 led h)

-- ---- maps

-- the facts of a new map, which no rows event goes by yet
pub new-facts : (sel : Selection) (p : Placed) (statement : List Placed) (k : ℕ) (v : MapSeen) → kind_at p ≡ kind.TableMap → IsPassedStatement sel statement
    → list_any (is_map_of (table_id p.event.body)) statement ≡ false → k ≡ little_number 6 (table_id p.event.body)
    → v.at ≡ p.pos → v.body.now ≡ p.event.body → option_map (λ (t : SelectedTable). layout_columns t.layout) v.table ≡ columns_known sel p → v.used ≡ false
    → facts_held (k, v) ≡ facts_of sel (p ∷ statement) p
new-facts sel p statement k v is passed new k_is at body layout used =
    let none = passed.mapped (table_id p.event.body) new in
    grind (arith, and-false)

module _ {A : Type 0} (sel : Selection) (p : Placed) (earlier : List Placed) (checker after : Checker A) (is : kind_at p ≡ kind.TableMap) (passed : IsPassed sel p)
    (none : list_any (clashes_by_id p) (since earlier) ≡ false) (place_same : after.place ≡ checker.place) (rows_same : after.has_rows ≡ checker.has_rows)
    (agree : LayoutsAgree sel (p ∷ earlier) after.layouts) (grown : HaveGrown (tables_known checker.layouts) (tables_known after.layouts)) (h : HasChecked sel (since earlier) earlier checker) where
  is_one : is_map p ≡ true
  is_one = rw is refl

  no_rows : is_rows p ≡ false
  no_rows = rw is refl

  numbered : AllByRecursion (IsNumbered (tables_known after.layouts)) (values checker.maps)
  numbered = numbered-grown (tables_known checker.layouts) (tables_known after.layouts) (values checker.maps) grown h.numbered

  knows-map : map facts_held after.maps.entries ≡ map (facts_of sel (p ∷ since earlier)) (first_of_ids (p ∷ since earlier))
      → AllByRecursion (IsNumbered (tables_known after.layouts)) (values after.maps) → HasChecked sel (since (p ∷ earlier)) (p ∷ earlier) after
  knows-map maps all = rw is (record {
    place_is = place_same ∙ h.place_is ∙ rw is refl;
    open_is = rows_same ∙ h.open_is ∙ rw no_rows refl;
    maps_are = maps;
    passed = passed-map sel p (since earlier) is_one no_rows passed none h.passed;
    layouts_agree = agree;
    numbered = all;
  })

  -- a further map of a known id
  pub knows-map-seen : list_any (is_map_of (table_id p.event.body)) (since earlier) ≡ true → after.maps.entries ≡ checker.maps.entries → HasChecked sel (since (p ∷ earlier)) (p ∷ earlier) after
  knows-map-seen there same = knows-map
      (ap (map facts_held) same ∙ h.maps_are ∙ sym (rw (is_one, there) (ap (λ (f : Placed → MapFacts). map f (first_of_ids (since earlier))) (facts-kept sel p (since earlier) no_rows))))
      (rw same numbered)

  -- a map of a new id
  pub knows-map-new : (k : ℕ) (v : MapSeen) → list_any (is_map_of (table_id p.event.body)) (since earlier) ≡ false → after.maps.entries ≡ checker.maps.entries ++ (k, v) ∷ []
      → IsNumbered (tables_known after.layouts) v → facts_held (k, v) ≡ facts_of sel (p ∷ since earlier) p → HasChecked sel (since (p ∷ earlier)) (p ∷ earlier) after
  knows-map-new k v new more own last = knows-map
      (maps-more sel p (since earlier) k v checker.maps.entries after.maps.entries is_one no_rows new h.passed h.maps_are more last)
      (rw (more, map-append (λ (e : ℕ × MapSeen). e.1) checker.maps.entries ((k, v) ∷ [])) (all-append (IsNumbered (tables_known after.layouts)) (values checker.maps) (v ∷ []) numbered (own, tt)))

-- a reading that gave a value was there
pub or-bad-some : {A : Type 0} (o : Option A) (x : A) → or_bad o ≡ Ok x → o ≡ Some x
or-bad-some o x h = grind arith

-- ---- the checks of a map

-- what decides inside a transaction
pub map-fault-inside : (sel : Selection) (p : Placed) (earlier : List Placed) → kind_at p ≡ kind.TableMap → is_inside (place earlier) ≡ true
    → event_fault sel earlier p ≡ first_failing (needs (is_some (names_of p.event.body)) BadBody ∷ needs (not (list_any (clashes_by_id p) (since earlier))) MapClash ∷ column_checks sel earlier p)
map-fault-inside sel p earlier is inside = rw (is, inside) refl

-- where the body has names
pub map-fault-named : (sel : Selection) (p : Placed) (earlier : List Placed) (n : Names) (clash : Bool) → kind_at p ≡ kind.TableMap → is_inside (place earlier) ≡ true → names_of p.event.body ≡ Some n
    → list_any (clashes_by_id p) (since earlier) ≡ clash → event_fault sel earlier p ≡ first_failing (needs (not clash) MapClash ∷ column_checks sel earlier p)
map-fault-named sel p earlier n clash is inside names clash_is = map-fault-inside sel p earlier is inside ∙ rw (names, clash_is) refl

-- a map that has its names, and whose body and columns were compared with those before it
pub record MapPassed (sel : Selection) (p : Placed) (earlier : List Placed) (n : Names) (first : Bool) : Type 0 where
  pub fault : event_fault sel earlier p ≡ None
  pub passed : IsPassed sel p
  pub number : little_number 6 n.id ≡ little_number 6 (table_id p.event.body)
  pub apart : list_any (clashes_by_id p) (since earlier) ≡ false
  pub unseen : list_any (is_map_of (table_id p.event.body)) (since earlier) ≡ not first

pub map-passed : (sel : Selection) (p : Placed) (earlier : List Placed) (n : Names) (first : Bool) → kind_at p ≡ kind.TableMap → AreBytes p.event.body → HasNames p.event.body n
    → names_of p.event.body ≡ Some n → is_inside (place earlier) ≡ true → IsMapCompared (since earlier) p (Ok first)
    → (is_selected sel p.event.body ≡ true → IsOk (layout_of p.event.body)) → first_failing (column_checks sel earlier p) ≡ None → MapPassed sel p earlier n first
map-passed sel p earlier n first is bytes has names inside compared layout columns =
    let id = map-id p.event.body n bytes has in record {
      fault = map-fault-named sel p earlier n false is inside names compared.0 ∙ columns;
      passed = record { id_len = id.0.len; id_bytes = id.0.bytes; layout = layout };
      number = id.1;
      apart = compared.0;
      unseen = compared.1;
    }
