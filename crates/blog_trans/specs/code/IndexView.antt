-- What a contract sees of an index: the groups of its log under its selection.
use Rattle.std.specs.Prelude.{◌≡◌, ℕ, ◌+◌, List, [], length, drop, Option, Some, option_and_then, slice_get}
use Rattle.std.specs.Option.{option_map_or}
use Rattle.blog_event.specs.Event.{event_at}
use Rattle.blog_event.specs.File.{Placed}
use Rattle.blog_event.specs.code.LogView.{log_bytes}
pub use Rattle.blog_trans.specs.Places.{placed}
use Rattle.blog_trans.specs.declared.groups.Index.{Index}
use Rattle.blog_trans.specs.declared.groups.TableCount as told
use Rattle.blog_trans.specs.Selection.{Selection, selection_of}
use Rattle.blog_trans.specs.Groups.{PlacedRows, PlacedStatement, PlacedTransaction, placed_groups}
use Rattle.blog_trans.specs.Changes.{TableCount}
use Rattle.blog_trans.specs.declared.lists.Entry.{Entry}
use Rattle.blog_trans.specs.code.Entries.{rows_entry, statement_place}
use Rattle.blog_trans.specs.PlacedFacts.{IsPlacedRows}

-- the bytes of its log
abbrev pub index_bytes : {A : Type 0} → Index A → List ℕ
index_bytes index = log_bytes index.log

-- its selection
abbrev pub index_selection : {A : Type 0} → Index A → Selection
index_selection index = selection_of index.sel

-- the groups
abbrev pub index_groups : {A : Type 0} → Index A → List PlacedTransaction
index_groups index = placed_groups (index_bytes index) (index_selection index)

-- ---- by number, from 0

-- a statement of a transaction
abbrev pub statement_at : List PlacedTransaction → ℕ → ℕ → Option PlacedStatement
statement_at ts t s = option_and_then (λ x. slice_get x.statements s) (slice_get ts t)

-- a map of a statement
abbrev pub map_at : List PlacedTransaction → ℕ → ℕ → ℕ → Option Placed
map_at ts t s m = option_and_then (λ x. slice_get x.maps m) (statement_at ts t s)

-- a rows event of a statement
abbrev pub rows_at : List PlacedTransaction → ℕ → ℕ → ℕ → Option PlacedRows
rows_at ts t s r = option_and_then (λ x. slice_get x.rows r) (statement_at ts t s)

-- the maps and the rows events of a statement, none where there is no such one
abbrev pub maps_in : List PlacedTransaction → ℕ → ℕ → List Placed
maps_in ts t s = option_map_or (λ x. x.maps) (statement_at ts t s) []

abbrev pub rows_in : List PlacedTransaction → ℕ → ℕ → List PlacedRows
rows_in ts t s = option_map_or (λ x. x.rows) (statement_at ts t s) []

-- the entry of its first rows event, behind those of its maps
abbrev pub rows_place : List PlacedTransaction → ℕ → ℕ → ℕ
rows_place ts t s = statement_place ts t s + length (maps_in ts t s)

-- ---- by entry

-- the event stands at its place
abbrev pub Stands : List ℕ → Placed → Type 0
Stands bytes p = event_at (drop p.pos bytes) ≡ Some p.event

-- the event that begins where an entry says
pub record IsOfEntry {A : Type 0} (index : Index A) (n : ℕ) (p : Placed) : Type 0 where
  pub entry : Entry
  pub here : slice_get index.entries.items n ≡ Some entry
  pub place : entry.at ≡ p.pos
  pub stands : Stands (index_bytes index) p

-- the rows event of an entry, which goes by one of some maps
pub record IsRowsOfEntry {A : Type 0} (index : Index A) (n : ℕ) (r : PlacedRows) : Type 0 where
  pub here : slice_get index.entries.items n ≡ Some (rows_entry r)
  pub maps : List Placed
  pub known : IsPlacedRows (Stands (index_bytes index)) (index_selection index) maps r

-- ---- numbers

-- the numbers of a table, without where its names lie
abbrev pub table_counted : told.TableCount → TableCount
table_counted c = record { table = record { schema = c.schema.now; name = c.table.now }; inserts = c.inserts; updates = c.updates; deletes = c.deletes }
