-- What is known of each group of events, whichever the events are. `Member` is what is known of each of the events.
use Rattle.std.specs.Prelude.{◌≡◌, List, ◌∷◌, map, true, Some, Ok, bytes_eq}
use Rattle.std.specs.List.{AllByRecursion, IsDistinct, list_any}
use Rattle.blog_event.specs.File.{Placed}
use Rattle.blog_row.specs.Column.{Layout}
use Rattle.blog_row.specs.TableMap.{Names, names_of, layout_of}
use Rattle.blog_row.specs.RowsEvent.{table_id}
use Rattle.blog_row.specs.declared.event_kinds.EventKind.TheVariants as kind
use Rattle.blog_trans.specs.Selection.{Selection}
use Rattle.blog_trans.specs.Places.{kind_at, is_begin, is_end, is_map, map_in}
use Rattle.blog_trans.specs.Acceptance.{is_selected, rows_by_map}
use Rattle.blog_trans.specs.Groups.{PlacedRows, PlacedStatement, PlacedTransaction}

-- one of the events, the map of a selected table, with its names and its layout
pub record IsPlacedMap (Member : Placed → Type 0) (sel : Selection) (m : Placed) : Type 0 where
  pub member : Member m
  pub is_one : is_map m ≡ true
  pub selected : is_selected sel m.event.body ≡ true
  pub names : Names
  pub names_are : names_of m.event.body ≡ Some names
  pub layout : Layout
  pub layout_is : layout_of m.event.body ≡ Ok layout

-- one of the events, which goes by one of these maps, and whose body is read
pub record IsPlacedRows (Member : Placed → Type 0) (sel : Selection) (maps : List Placed) (r : PlacedRows) : Type 0 where
  pub member : Member r.event
  pub kind_is : kind_at r.event ≡ kind.Rows r.kind
  pub map : IsPlacedMap Member sel r.map
  pub found : map_in maps (table_id r.event.event.body) ≡ Some r.map
  pub read : rows_by_map r.kind r.map.event.body r.event.event.body ≡ Ok r.body

-- at least one map and one rows event; no two of its maps have one table id, and each has that of a rows event
pub record IsPlacedStatement (Member : Placed → Type 0) (sel : Selection) (s : PlacedStatement) : Type 0 where
  pub maps : AllByRecursion (IsPlacedMap Member sel) s.maps
  pub distinct : IsDistinct bytes_eq (map (λ m. table_id m.event.body) s.maps)
  pub used : AllByRecursion (λ m. list_any (λ r. bytes_eq (table_id m.event.body) (table_id r.event.event.body)) s.rows ≡ true) s.maps
  pub rows : AllByRecursion (IsPlacedRows Member sel s.maps) s.rows
  pub some_map : (m : Placed) × (ms : List Placed) × (s.maps ≡ m ∷ ms)
  pub some_rows : (r : PlacedRows) × (rs : List PlacedRows) × (s.rows ≡ r ∷ rs)

-- two of the events, and at least one statement
pub record IsPlacedTransaction (Member : Placed → Type 0) (sel : Selection) (t : PlacedTransaction) : Type 0 where
  pub begin_member : Member t.begin
  pub begin_is : is_begin t.begin ≡ true
  pub end_member : Member t.end
  pub end_is : is_end t.end ≡ true
  pub statements : AllByRecursion (IsPlacedStatement Member sel) t.statements
  pub some_statement : (s : PlacedStatement) × (ss : List PlacedStatement) × (t.statements ≡ s ∷ ss)
