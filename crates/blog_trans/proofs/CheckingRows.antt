-- What is told and known of a rows event.
use Rattle.std.proofs.Common.{◌≡◌, ℕ, ◌≤◌, ◌<◌, Bool, true, false, List, [], ◌∷◌, length, map, reverse, Option, Some, None, Result, Ok, refl, sym, subst, ap, ◌∙◌, arith, length-append, rules}
use Rattle.std.specs.Prelude.{is_some, nat_eq, nat_le, IsErrAnd}
use Rattle.std.specs.List.{concat, list_any, AllByRecursion, IsDistinct}
use Rattle.std.specs.Map.{lookup, set_value, keys_of, values_of}
use Rattle.std.proofs.lemmas.Bool.{leb-true}
use Rattle.std.proofs.lemmas.List.Elements.{All-from_recursion, recursion_from_All}
use Rattle.std.proofs.lemmas.Map.Views.{All-values-set_value}
use Rattle.byteorder.specs.Endian.{little_number}
use Rattle.blog_event.specs.declared.fault.Fault.{Fault}
use Rattle.blog_event.specs.Fault.{fault_at, first_failing}
use Rattle.blog_event.specs.declared.fault.Fault.TheVariants.{NoMap}
use Rattle.blog_event.specs.File.{Placed, AreBytes}
use Rattle.blog_row.specs.declared.fault.RowFault.{RowFault}
use Rattle.blog_row.specs.declared.kind.RowsKind.{RowsKind}
use Rattle.blog_row.specs.declared.kind.RowsVersion.{RowsVersion}
use Rattle.blog_row.specs.declared.rows_event.RowsHead.{RowsHead}
use Rattle.blog_row.specs.Column.{Layout}
use Rattle.blog_row.specs.Image.{IsSomeImage}
use Rattle.blog_row.specs.code.LayoutView.{layout_columns}
use Rattle.blog_row.specs.TableMap.{Table}
use Rattle.blog_row.specs.RowsEvent.{RowsBody, IsRowsBody, rows_of, table_id, fixed_len}
use Rattle.blog_row.specs.declared.rows_event.RowsEvent.{RowsEvent}
use Rattle.blog_row.specs.code.RowsEventView.{counted_seen, head_of}
use Rattle.blog_row.proofs.Images.{image_positive}
use Rattle.blog_row.specs.declared.event_kinds.EventKind.TheVariants as kind
use Rattle.blog_trans.specs.declared.checker.Checker.{Checker}
use Rattle.blog_trans.specs.declared.layouts.SelectedTable.{SelectedTable}
use Rattle.blog_trans.specs.declared.checker.MapSeen.{MapSeen}
use Rattle.blog_trans.specs.Selection.{Selection}
use Rattle.blog_trans.specs.Places.{kind_at, is_map, is_rows, is_map_of, map_in, is_inside, since}
use Rattle.blog_trans.specs.Acceptance.{cause_of_row, rows_check, event_fault}
use Rattle.blog_trans.specs.Groups.{kept_rows}
use Rattle.blog_trans.specs.code.TablesView.{tables_known, IsNumbered}
use Rattle.blog_trans.specs.code.StatementMaps.{MapFacts, first_of_ids}
use Rattle.blog_trans.specs.code.CheckerView.{IsKept, HasChecked, IsMapHeld}
use Rattle.blog_trans.proofs.PlacedParts.{all-found}
use Rattle.blog_trans.proofs.CheckingStatement.{map-there, passed-rows}
use Rattle.blog_trans.proofs.CheckingMaps.{IsId, body-id, held-map, IsPassedMap, first-passed, find-first, held-some, maps-marked}
use Rattle.blog_trans.proofs.CheckingLayouts.{layouts-quiet}

-- ---- how many images it has

-- no more than they have bytes
images-few : (layout : Layout) (images : List (List ℕ)) → 0 < length layout → AllByRecursion (IsSomeImage layout) images → length images ≤ length (concat images)
images-few layout [] some all = omega arith
images-few layout (image ∷ images) some all =
    let one : 0 < length image = image_positive layout all.0.0 image some all.0.1 in
    let others : length images ≤ length (concat images) = images-few layout images some all.1 in
    omega (arith, length-append image (concat images))

-- nor than the body has
pub images-fit : (kind : RowsKind) (layout : Layout) (body : List ℕ) (b : RowsBody) → 0 < length layout → IsRowsBody kind layout body b → length b.images ≤ length body
images-fit kind layout body b some is =
    omega (arith, images-few layout b.images some is.images_each, ap length is.text, length-append {A = ℕ})

-- ---- its check

-- a rows event of a table that isn't selected passes, and isn't kept
pub rows-unselected : (tables : List Table) (sel : Selection) (statement : List Placed) (p : Placed) (rows : RowsKind) (v : MapSeen) (m : Placed) → IsMapHeld sel statement (table_id p.event.body) v m → v.table ≡ None
    → (rows_check sel rows p.event.body (map_in (reverse statement) (table_id p.event.body)) ≡ None) × IsKept tables p.pos None (kept_rows sel (reverse statement) p)
rows-unselected tables sel statement p rows v m held none = grind (arith, held.known)

-- one that is read passes, and is kept
pub rows-kept : (tables : List Table) (sel : Selection) (statement : List Placed) (p : Placed) (rows : RowsKind) (v : MapSeen) (m : Placed) (t : SelectedTable) (b : RowsBody) (images : ℕ) → kind_at p ≡ kind.Rows rows
    → IsNumbered tables v → IsMapHeld sel statement (table_id p.event.body) v m → v.table ≡ Some t → rows_of rows (layout_columns t.layout) p.event.body ≡ Ok b → images ≡ length b.images
    → (rows_check sel rows p.event.body (map_in (reverse statement) (table_id p.event.body)) ≡ None)
    × IsKept tables p.pos (Some (record { map = v.at; table = t.number; action = rows.action; images = images })) (kept_rows sel (reverse statement) p)
rows-kept tables sel statement p rows v m t b images is numbered held table read images_are = grind (arith, held.known)

-- one that isn't read is refused
pub rows-refused : (sel : Selection) (statement : List Placed) (p : Placed) (rows : RowsKind) (v : MapSeen) (m : Placed) (t : SelectedTable) (read : Result (RowsEvent × ℕ) RowFault) (f : Fault)
    → IsMapHeld sel statement (table_id p.event.body) v m → v.table ≡ Some t → counted_seen read ≡ rows_of rows (layout_columns t.layout) p.event.body → IsErrAnd read (λ cause. f ≡ cause_of_row cause p.pos)
    → fault_at p.pos (rows_check sel rows p.event.body (map_in (reverse statement) (table_id p.event.body))) ≡ Some f
rows-refused sel statement p rows v m t read f held table seen is = grind (arith, held.known)

-- alone, it decides
pub alone : {A : Type 0} (check : Option A) → first_failing (check ∷ []) ≡ check
alone check = search rules

-- ---- the body's fixed part

-- a head that was read
head-long : (version : RowsVersion) (body : List ℕ) (head : RowsHead) → Ok head ≡ head_of version body → nat_le (fixed_len version) (length body) ≡ true
head-long version body head h = grind arith

-- is longer than an id
long-id : (version : RowsVersion) (body : List ℕ) → nat_le (fixed_len version) (length body) ≡ true → 6 ≤ length body
long-id version body h = let long = leb-true (fixed_len version) (length body) h in grind arith

-- ---- what is known after it

-- what the map under the number of its id tells of it
pub record GoesBy {A : Type 0} (sel : Selection) (p : Placed) (earlier : List Placed) (checker : Checker A) (rows : RowsKind) (v : MapSeen) : Type 0 where
  pub map : Placed
  pub held : IsMapHeld sel (since earlier) (table_id p.event.body) v map
  pub numbered : IsNumbered (tables_known checker.layouts) v
  pub check : event_fault sel earlier p ≡ rows_check sel rows p.event.body (map_in (reverse (since earlier)) (table_id p.event.body))
  pub id : IsId (table_id p.event.body)

-- what all values have, the one that is looked up has
value-all : (P : MapSeen → Type 0) (test : ℕ → Bool) (es : List (ℕ × MapSeen)) (v : MapSeen) → AllByRecursion P (map (λ e. e.1) es) → lookup test es ≡ Some v → P v
value-all P test [] v all found = absurd (cc)
value-all P test (e ∷ es) v all found = let later = value-all P test es v all.1 in grind arith

-- and all have it where one is written that has it
written-all : (P : MapSeen → Type 0) (test : ℕ → Bool) (es : List (ℕ × MapSeen)) (w : MapSeen) → AllByRecursion P (map (λ e. e.1) es) → P w → AllByRecursion P (map (λ e. e.1) (set_value test es w))
written-all P test es w all new = recursion_from_All P (values_of (set_value test es w)) (All-values-set_value test P es w (All-from_recursion P (values_of es) all) new)

-- ---- a rows event inside a transaction, whose head was read

module _ {A : Type 0} (sel : Selection) (p : Placed) (earlier : List Placed) (checker : Checker A) (rows : RowsKind) (head : RowsHead) (k : ℕ) (is : kind_at p ≡ kind.Rows rows)
    (inside : is_inside checker.place ≡ true) (bytes : AreBytes p.event.body) (read : Ok head ≡ head_of rows.version p.event.body) (k_is : k ≡ little_number 6 (table_id p.event.body))
    (h : HasChecked sel (since earlier) earlier checker) where
  id : IsId (table_id p.event.body)
  id = body-id p.event.body (long-id rows.version p.event.body (head-long rows.version p.event.body head read)) bytes

  -- its map decides
  check-is : event_fault sel earlier p ≡ rows_check sel rows p.event.body (map_in (reverse (since earlier)) (table_id p.event.body))
  check-is = rw (is, ap is_inside (sym h.place_is) ∙ inside, head-long rows.version p.event.body head read) (alone (rows_check sel rows p.event.body (map_in (reverse (since earlier)) (table_id p.event.body))))

  pub no-map : lookup (nat_eq k) checker.maps.entries ≡ None → event_fault sel earlier p ≡ Some NoMap
  no-map none = let held = held-map sel (since earlier) (table_id p.event.body) k checker.maps.entries id k_is h.passed h.maps_are in grind (arith, check-is)

  -- the map under whose number one is held
  pub goes-by : (v : MapSeen) → lookup (nat_eq k) checker.maps.entries ≡ Some v → GoesBy sel p earlier checker rows v
  goes-by v found =
      let some = held-some sel (since earlier) (table_id p.event.body) k v checker.maps.entries id k_is h.passed h.maps_are found in
      let all = (all-found (IsPassedMap sel) (is_map_of (table_id p.event.body)) (first_of_ids (since earlier)) some.0 (first-passed sel (since earlier) h.passed.maps) (find-first (since earlier) (table_id p.event.body) ∙ some.1)).0 in
      record {
        map = some.0;
        held = record {
          found = some.1;
          at = ap (λ (f : MapFacts). f.at) (sym some.2);
          body = ap (λ (f : MapFacts). f.body) (sym some.2);
          layout = ap (λ (f : MapFacts). f.layout) (sym some.2);
          known = all.passed.layout;
        };
        numbered = value-all (IsNumbered (tables_known checker.layouts)) (nat_eq k) checker.maps.entries v h.numbered found;
        check = check-is;
        id = id;
      }

pub knows-rows : {A : Type 0} (sel : Selection) (p : Placed) (earlier : List Placed) (checker after : Checker A) (rows : RowsKind) (k : ℕ) (v w : MapSeen) → kind_at p ≡ kind.Rows rows
    → k ≡ little_number 6 (table_id p.event.body) → GoesBy sel p earlier checker rows v
    → IsDistinct nat_eq (keys_of checker.maps.entries) → lookup (nat_eq k) checker.maps.entries ≡ Some v → w ≡ record v { used = is_some v.table }
    → after.place ≡ checker.place → after.has_rows ≡ true → after.maps.entries ≡ set_value (nat_eq k) checker.maps.entries w → after.layouts ≡ checker.layouts
    → HasChecked sel (since earlier) earlier checker → HasChecked sel (p ∷ since earlier) (p ∷ earlier) after
knows-rows sel p earlier checker after rows k v w is k_is by distinct found w_is place_same has_rows marked layouts_same h =
    let no_map : is_map p ≡ false = rw is refl in
    let is_one : is_rows p ≡ true = rw is refl in
    let there : list_any (is_map_of (table_id p.event.body)) (since earlier) ≡ true = sym (map-there (since earlier) (table_id p.event.body)) ∙ ap is_some by.held.found in
    record {
      place_is = place_same ∙ h.place_is ∙ rw is refl;
      open_is = has_rows ∙ rw is_one refl;
      maps_are = maps-marked sel p (since earlier) k v w checker.maps.entries after.maps.entries by.id k_is no_map is_one h.passed h.maps_are distinct found w_is marked;
      passed = passed-rows sel p (since earlier) no_map there h.passed;
      layouts_agree = rw layouts_same (layouts-quiet sel p earlier checker.layouts no_map h.layouts_agree);
      numbered =
          let new : IsNumbered (tables_known checker.layouts) w = subst (IsNumbered (tables_known checker.layouts)) (sym w_is) (record { number = by.numbered.number; selected = λ used. used }) in
          rw (layouts_same, marked) (written-all (IsNumbered (tables_known checker.layouts)) (nat_eq k) checker.maps.entries w h.numbered new);
    }
