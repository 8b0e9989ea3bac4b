-- What is known of the events before one, as the program holds it, and what checking that one tells. `earlier` has the
-- events of the range, the latest first, and `statement` those of the open statement.
use Rattle.std.specs.Prelude.{◌≡◌, ◌&&◌, ℕ, Bool, true, false, not, List, [], ◌∷◌, length, map, reverse, Option, Some, None, Result, Ok, option_map, IsOk, MatchResult, bytes_eq, if◌then◌else◌, ⊤, slice_get}
use Rattle.std.specs.Option.{option_map_or}
use Rattle.std.specs.Result.{result_ok}
use Rattle.std.specs.List.{list_any, AllByRecursion}
use Rattle.indexmap.specs.IndexMap.{IndexMap, get, values}
use Rattle.blog_event.specs.declared.fault.Fault.{Fault}
use Rattle.blog_event.specs.declared.fault.Fault.TheVariants.{MapClash}
use Rattle.blog_event.specs.Fault.{Cause, fault_at, first_failing}
use Rattle.blog_event.specs.File.{Placed, AreBytes}
use Rattle.blog_row.specs.declared.layout.Layout as told
use Rattle.blog_row.specs.declared.kind.RowsKind.{RowsKind}
use Rattle.blog_row.specs.Column.{Layout}
use Rattle.blog_row.specs.code.LayoutView.{layout_columns}
use Rattle.blog_row.specs.TableMap.{names_of, layout_of, Table}
use Rattle.blog_row.specs.RowsEvent.{table_id, has_end_flag}
use Rattle.blog_trans.specs.declared.checker.Checker.{Checker}
use Rattle.blog_trans.specs.declared.layouts.SelectedTable.{SelectedTable}
use Rattle.blog_trans.specs.declared.checker.MapSeen.{MapSeen}
use Rattle.blog_trans.specs.declared.checker.KeptRows.{KeptRows}
use Rattle.blog_trans.specs.declared.table_name.TableName.{TableName}
use Rattle.blog_trans.specs.Selection.{Selection}
use Rattle.blog_trans.specs.Changes.{table_of}
use Rattle.blog_trans.specs.Groups.{PlacedRows, kept_rows}
use Rattle.blog_trans.specs.Places.{is_map, is_rows, is_map_of, map_in, place, since}
use Rattle.blog_trans.specs.Acceptance.{is_selected, clashes_by_id, clashes_by_layout, have_same_layout, rows_check, selected_map_checks, event_fault, IsRefusal}
use Rattle.blog_trans.specs.code.StatementMaps.{first_of_ids, facts_of, facts_held}
use Rattle.blog_trans.specs.code.TablesView.{table_named, tables_known, IsNumbered}

-- ---- the open statement

-- a map that passed its checks: its id has six bytes, and its columns are known if its table is selected
pub record IsPassed (sel : Selection) (m : Placed) : Type 0 where
  pub id_len : length (table_id m.event.body) ≡ 6
  pub id_bytes : AreBytes (table_id m.event.body)
  pub layout : is_selected sel m.event.body ≡ true → IsOk (layout_of m.event.body)

-- a rows event of this table id
abbrev pub is_rows_of : List ℕ → Placed → Bool
is_rows_of id p = is_rows p && bytes_eq (table_id p.event.body) id

-- the map has another body
abbrev pub differs : Placed → Placed → Bool
differs p m = not (bytes_eq m.event.body p.event.body)

-- a statement whose events passed their checks: each rows event has a map, and maps of one id have the body of the first
pub record IsPassedStatement (sel : Selection) (statement : List Placed) : Type 0 where
  pub maps : AllByRecursion (λ m. is_map m ≡ true → IsPassed sel m) statement
  pub mapped : (id : List ℕ) → list_any (is_map_of id) statement ≡ false → list_any (is_rows_of id) statement ≡ false
  pub agree : (p : Placed) → list_any (clashes_by_id p) statement ≡ option_map_or (differs p) (map_in (reverse statement) (table_id p.event.body)) false

-- what is told of a map's id: whether the map is the first of it, or that another body has it
abbrev pub IsMapCompared : List Placed → Placed → Result Bool Fault → Type 0
IsMapCompared statement p result =
    MatchResult result (λ first. (list_any (clashes_by_id p) statement ≡ false) × (list_any (is_map_of (table_id p.event.body)) statement ≡ not first))
    (λ fault. (list_any (clashes_by_id p) statement ≡ true) × (fault ≡ MapClash p.pos))

-- ---- the layouts

-- equal names
abbrev pub is_same_name : TableName → TableName → Bool
is_same_name a b = bytes_eq a.schema.now b.schema.now && bytes_eq a.table.now b.table.now

-- the table's layout, where one is known, is another than this
abbrev pub has_other_layout : Option told.Layout → List ℕ → Bool
has_other_layout first body = option_map_or (λ layout. not (have_same_layout (Ok (layout_columns layout)) (layout_of body))) first false

-- a map of a selected table clashes with an earlier one where its layout isn't the known one
abbrev pub LayoutsAgree : {S : Type 0} → Selection → List Placed → IndexMap TableName told.Layout S → Type 0
LayoutsAgree sel earlier layouts =
    (p : Placed) (name : TableName) → is_selected sel p.event.body ≡ true → option_map (λ names. names.table) (names_of p.event.body) ≡ Some (table_named name)
    → list_any (clashes_by_layout p) earlier ≡ has_other_layout (get is_same_name layouts name) p.event.body

-- the checks of a map's columns
abbrev pub column_checks : Selection → List Placed → Placed → List (Option Cause)
column_checks sel earlier p = if is_selected sel p.event.body then selected_map_checks earlier p else []

-- the columns that are known of a map
abbrev pub columns_known : Selection → Placed → Option Layout
columns_known sel p = if is_selected sel p.event.body then result_ok (layout_of p.event.body) else None

-- what is told of any map: its columns, where its table is selected, or why it is refused
abbrev pub AreColumns : {S : Type 0} → Selection → List Placed → Placed → Result (Option SelectedTable) Fault → IndexMap TableName told.Layout S → Type 0
AreColumns sel earlier p result layouts =
    MatchResult result (λ table. (option_map (λ t. layout_columns t.layout) table ≡ columns_known sel p) × (is_selected sel p.event.body ≡ true → IsOk (layout_of p.event.body))
    × (first_failing (column_checks sel earlier p) ≡ None) × LayoutsAgree sel (p ∷ earlier) layouts)
    (λ fault. IsRefusal (fault_at p.pos (first_failing (column_checks sel earlier p))) fault)

-- ---- rows events

-- the program holds this map, which is the statement's first of the table id
pub record IsMapHeld (sel : Selection) (statement : List Placed) (id : List ℕ) (v : MapSeen) (m : Placed) : Type 0 where
  pub found : map_in (reverse statement) id ≡ Some m
  pub at : v.at ≡ m.pos
  pub body : v.body.now ≡ m.event.body
  pub layout : option_map (λ t. layout_columns t.layout) v.table ≡ columns_known sel m
  pub known : is_selected sel m.event.body ≡ true → IsOk (layout_of m.event.body)

-- the same rows event, which begins at this position, and whose table has its number among these
abbrev pub IsKept : List Table → ℕ → Option KeptRows → Option PlacedRows → Type 0
IsKept tables at None None = ⊤
IsKept tables at None (Some r) = ⊥
IsKept tables at (Some kept) None = ⊥
IsKept tables at (Some kept) (Some r) =
    (at ≡ r.event.pos) × (kept.map ≡ r.map.pos) × (slice_get tables kept.table ≡ Some (table_of r.map.event.body)) × (kept.action ≡ r.kind.action) × (kept.images ≡ length r.body.images)

-- what is told of a rows event by its map: how it is kept, or why it is refused
abbrev pub IsReadBy : RowsKind → Placed → MapSeen → Result (Option KeptRows) Fault → Type 0
IsReadBy kind p map result =
    (tables : List Table) (sel : Selection) (statement : List Placed) (m : Placed) → IsNumbered tables map → IsMapHeld sel statement (table_id p.event.body) map m
    → MatchResult result (λ kept. (rows_check sel kind p.event.body (map_in (reverse statement) (table_id p.event.body)) ≡ None) × IsKept tables p.pos kept (kept_rows sel (reverse statement) p))
    (λ fault. fault_at p.pos (rows_check sel kind p.event.body (map_in (reverse statement) (table_id p.event.body))) ≡ Some fault)

-- how many images a rows event has, if it is kept
abbrev pub images_of : Option KeptRows → ℕ
images_of kept = option_map_or (λ rows. rows.images) kept 0

-- ---- all of it

-- the facts that the checker holds are those of the events
pub record HasChecked {A : Type 0} (sel : Selection) (statement earlier : List Placed) (checker : Checker A) : Type 0 where
  pub place_is : checker.place ≡ place earlier
  pub open_is : checker.has_rows ≡ list_any is_rows statement
  pub maps_are : map facts_held checker.maps.entries ≡ map (facts_of sel statement) (first_of_ids statement)
  pub passed : IsPassedStatement sel statement
  pub layouts_agree : LayoutsAgree sel earlier checker.layouts
  pub numbered : AllByRecursion (IsNumbered (tables_known checker.layouts)) (values checker.maps)

-- what is told of an event whose checks are these: it passed and is known, or it is refused
abbrev pub IsCheckedBy : {A : Type 0} → Option Cause → Selection → List Placed → Placed → Result Unit Fault → Checker A → Type 0
IsCheckedBy wanted sel earlier p result checker =
    MatchResult result (λ done. (wanted ≡ None) × HasChecked sel (since (p ∷ earlier)) (p ∷ earlier) checker) (λ fault. IsRefusal (fault_at p.pos wanted) fault)

abbrev pub IsChecked : {A : Type 0} → Selection → Placed → Checker A → Result Unit Fault → Checker A → Type 0
IsChecked sel p before result checker =
    (earlier : List Placed) → HasChecked sel (since earlier) earlier before → IsCheckedBy (event_fault sel earlier p) sel earlier p result checker

-- and of a rows event: how it is kept, and whether it is the last of its statement
abbrev pub AreChecked : {A : Type 0} → Selection → Placed → Checker A → Result (Option KeptRows × Bool) Fault → Checker A → Type 0
AreChecked sel p before result checker =
    (earlier : List Placed) → HasChecked sel (since earlier) earlier before
    → MatchResult result (λ rows. (event_fault sel earlier p ≡ None) × HasChecked sel (p ∷ since earlier) (p ∷ earlier) checker
    × (has_end_flag p.event.body ≡ rows.1) × IsKept (tables_known checker.layouts) p.pos rows.0 (kept_rows sel (reverse (since earlier)) p))
    (λ fault. IsRefusal (fault_at p.pos (event_fault sel earlier p)) fault)
