-- Groups that can be laid out: what holds of the groups of every accepted log, and of the reversed ones.
use Rattle.std.proofs.Common.{◌≡◌, ℕ, ◌+◌, ◌%◌, ◌<◌, ◌^◌, List, ◌∷◌, length, find, map, Bool, true, false, not, ◌&&◌, bytes_eq, Option, Some, Ok, ◌⊎◌}
use Rattle.std.specs.List.{AllByRecursion, IsDistinct, list_any}
use Rattle.blog_event.specs.Event.{Event, unplaced}
use Rattle.blog_row.specs.Column.{Layout}
use Rattle.blog_row.specs.TableMap.{Names, names_of, layout_of}
use Rattle.blog_row.specs.RowsEvent.{table_id}
use Rattle.blog_row.proofs.ReversedRows.{IsContent}
use Rattle.blog_row.specs.declared.event_kinds.EventKind.TheVariants as kind
use Rattle.blog_row.specs.Kinds.{kind_of, is_map_kind}
use Rattle.blog_trans.specs.Acceptance.{are_of_same_table, have_same_layout}
use Rattle.blog_trans.specs.Groups.{RowsEvent, Statement, Transaction}

-- ---- events

-- the fields of a header fit theirs; size and log_pos, which are computed, apart
pub record Fits (e : Event) : Type 0 where
  pub timestamp : e.timestamp < 2 ^ 32
  pub kind : e.kind < 2 ^ 8
  pub server_id : e.server_id < 2 ^ 32
  pub flags : e.flags < 2 ^ 16

abbrev pub is_map_of_id : List ℕ → Event → Bool
is_map_of_id id e = is_map_kind (kind_of e) && bytes_eq (table_id e.body) id

-- the first map of a table id
abbrev pub map_among : List Event → List ℕ → Option Event
map_among maps id = find (is_map_of_id id) maps

-- a map of groups; Known is what is asked of all maps of the groups together
pub record IsMapEvent (Known : Event → Type 0) (m : Event) : Type 0 where
  pub kind : kind_of m ≡ kind.TableMap
  pub names : (n : Names) × (names_of m.body ≡ Some n)
  pub layout : (c : Layout) × (layout_of m.body ≡ Ok c)
  pub known : Known m
  pub unplaced : unplaced m ≡ m
  pub fits : Fits m

-- two maps have the same table, and not the same layout
abbrev pub clash : Event → Event → Bool
clash a b = are_of_same_table (names_of a.body) (names_of b.body) && not (have_same_layout (layout_of a.body) (layout_of b.body))

-- no two maps of groups do
abbrev pub Agree : (Event → Type 0) → Type 0
Agree Known = (a b : Event) → IsMapEvent Known a → IsMapEvent Known b → clash a b ≡ false

-- a rows event of groups: its map is there, and its body is read again
pub record IsRowsEvent (maps : List Event) (r : RowsEvent) : Type 0 where
  pub found : (m : Event) × (map_among maps r.content.id ≡ Some m) × (m.body ≡ r.map)
  pub names : (n : Names) × (names_of r.map ≡ Some n)
  pub flags : r.content.flags + 1 < 2 ^ 16
  pub even : r.content.flags % 2 ≡ 0
  pub content : (c : Layout) × (layout_of r.map ≡ Ok c) × IsContent c r.content
  pub timestamp_fits : r.timestamp < 2 ^ 32
  pub server_id_fits : r.server_id < 2 ^ 32
  pub header_flags_fit : r.header_flags < 2 ^ 16

-- ---- statements, transactions, groups

-- no two maps have one table id
abbrev pub AreDistinct : List Event → Type 0
AreDistinct ms = IsDistinct bytes_eq (map (λ m. table_id m.body) ms)

-- some rows event goes by the map
abbrev pub IsUsed : List RowsEvent → Event → Type 0
IsUsed rows m = list_any (λ (r : RowsEvent). bytes_eq (table_id m.body) r.content.id) rows ≡ true

pub record IsStatement (Known : Event → Type 0) (s : Statement) : Type 0 where
  pub maps_formed : AllByRecursion (IsMapEvent Known) s.maps
  pub distinct : AreDistinct s.maps
  pub used : AllByRecursion (IsUsed s.rows) s.maps
  pub rows_formed : AllByRecursion (IsRowsEvent s.maps) s.rows
  pub some : (r : RowsEvent) × (rest : List RowsEvent) × (s.rows ≡ r ∷ rest)

-- a `COMMIT`, or an Xid with its eight bytes
abbrev pub IsEndEvent : Event → Type 0
IsEndEvent e = (kind_of e ≡ kind.Commit) ⊎ ((kind_of e ≡ kind.Xid) × (length e.body ≡ 8))

pub record IsTransaction (Known : Event → Type 0) (t : Transaction) : Type 0 where
  pub begin_kind : kind_of t.begin ≡ kind.Begin
  pub begin_unplaced : unplaced t.begin ≡ t.begin
  pub begin_fits : Fits t.begin
  pub end_is : IsEndEvent t.end
  pub end_unplaced : unplaced t.end ≡ t.end
  pub end_fits : Fits t.end
  pub statements_formed : AllByRecursion (IsStatement Known) t.statements
  pub some : (s : Statement) × (rest : List Statement) × (t.statements ≡ s ∷ rest)

abbrev pub AreGroups : (Event → Type 0) → List Transaction → Type 0
AreGroups Known ts = AllByRecursion (IsTransaction Known) ts
