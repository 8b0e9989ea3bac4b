-- What a contract sees of an iterator over the events of groups.
use Rattle.std.specs.Prelude.{◌≡◌, ℕ, true, List, [], ◌∷◌, ◌++◌, length, map, drop, take, if◌then◌else◌, Option, None, Some, IfSome, Ok, slice_get}
use Rattle.std.specs.Option.{option_map_or}
use Rattle.std.specs.List.{flat_map}
use Rattle.std.specs.Iterator.{YieldsFirstBy}
use Rattle.blog_event.specs.declared.event.Event as told
use Rattle.blog_event.specs.Event.{event_of, event_size}
use Rattle.blog_row.specs.TableMap.{names_of, layout_of, map_names}
use Rattle.blog_row.specs.code.LayoutView.{layout_columns}
use Rattle.blog_row.specs.code.RowsEventView.{rows_kind, rows_layout, rows_body}
use Rattle.blog_row.specs.RowsEvent.{table_id}
use Rattle.blog_row.specs.RowsWriting.{content_of, written_body}
use Rattle.blog_event.specs.File.{Placed}
use Rattle.blog_trans.specs.Groups.{PlacedRows, PlacedTransaction}
use Rattle.blog_trans.specs.code.Entries.{statements_at}
use Rattle.blog_trans.specs.code.InTurn.{GroupEvent, Begins, Maps, Changes, Ends, in_order, rows_in_turn, statement_in_turn, transaction_in_turn}
use Rattle.blog_trans.specs.code.IndexView.{IsOfEntry, IsRowsOfEntry, index_groups, maps_in, placed, rows_in}
use Rattle.blog_trans.specs.declared.group_events.GroupRows.{GroupRows}
use Rattle.blog_trans.specs.declared.group_events.GroupEvent as seen
use Rattle.blog_trans.specs.declared.group_events.GroupEvent.TheVariants as given
use Rattle.blog_trans.specs.declared.group_events.SkippedRows.{SkippedRows}
use Rattle.blog_trans.specs.declared.group_events.SkippedEvent as skipped
use Rattle.blog_trans.specs.declared.group_events.SkippedEvent.TheVariants as over
use Rattle.blog_trans.specs.declared.group_events.Turn.{Turn}
use Rattle.blog_trans.specs.declared.group_events.Turn.TheVariants as turn
use Rattle.blog_trans.specs.declared.group_events.GroupEvents.{GroupEvents}
use Rattle.blog_trans.specs.declared.groups.Index.{Index}
use Rattle.std.specs.declared.ops.Range.{Range}

-- which rows event it is
abbrev pub rows_seen : GroupRows → GroupEvent
rows_seen rows = Changes (record { event = placed rows.event; map = placed rows.map; kind = rows_kind rows.rows; body = rows_body rows.rows }) rows.last

-- which event of the groups it is
abbrev pub event_seen : seen.GroupEvent → GroupEvent
event_seen (given.Begin event) = Begins (placed event)
event_seen (given.Map event) = Maps (placed event)
event_seen (given.Rows rows) = rows_seen rows
event_seen (given.End event) = Ends (placed event)

abbrev pub HasSize : told.Event → Type 0
HasSize e = e.header.size ≡ event_size (event_of e)

-- a rows event is read by the layout of its map, and comes with the names that its map has
pub record IsByMap (rows : GroupRows) : Type 0 where
  pub size : HasSize rows.event
  pub names : names_of rows.map.body.now ≡ Some (map_names rows.table)
  pub layout : layout_of rows.map.body.now ≡ Ok (layout_columns (rows_layout rows.rows))

-- what is known of it besides
abbrev pub IsWhole : seen.GroupEvent → Type 0
IsWhole (given.Begin event) = HasSize event
IsWhole (given.Map event) = HasSize event
IsWhole (given.Rows rows) = IsByMap rows
IsWhole (given.End event) = HasSize event

-- ---- what is left

-- the elements whose numbers are left
abbrev pub among : {A : Type 0} → Range ℕ → List A → List A
among numbers xs = drop numbers.start (take numbers.end xs)

-- the end event of a transaction, none where there is no such one
abbrev pub ends_in : List PlacedTransaction → ℕ → List GroupEvent
ends_in ts t = option_map_or (λ x. Ends x.end ∷ []) (slice_get ts t) []

-- of the open transaction: these maps and rows events of its open statement, and what follows
abbrev pub opened : List Placed → List PlacedRows → List GroupEvent → List GroupEvent
opened maps rows others = map Maps maps ++ (rows_in_turn rows ++ others)

abbrev pub open_left : {A : Type 0} → GroupEvents A → List GroupEvent
open_left events =
    let ts = index_groups events.index.now in
    opened (among events.maps (maps_in ts events.transaction events.statement)) (in_order events.order (among events.rows (rows_in ts events.transaction events.statement)))
    (flat_map (statement_in_turn events.order) (in_order events.order (among events.statements (statements_at ts events.transaction))) ++ ends_in ts events.transaction)

-- the events that are left
abbrev pub events_left : {A : Type 0} → GroupEvents A → List GroupEvent
events_left events =
    (if events.is_open then open_left events else [])
    ++ flat_map (transaction_in_turn events.order) (in_order events.order (among events.transactions (index_groups events.index.now)))

-- an event of the groups by its entry
abbrev pub IsTurn : {A : Type 0} → Index A → Turn → GroupEvent → Type 0
IsTurn index (turn.Begin n) e = (p : Placed) × IsOfEntry index n p × (e ≡ Begins p)
IsTurn index (turn.Map n) e = (p : Placed) × IsOfEntry index n p × (e ≡ Maps p)
IsTurn index (turn.Rows n last) e = (r : PlacedRows) × IsRowsOfEntry index n r × (e ≡ Changes r last)
IsTurn index (turn.End n) e = (p : Placed) × IsOfEntry index n p × (e ≡ Ends p)

-- the first event that is left is taken
pub record IsTaken {A : Type 0} (before : GroupEvents A) (which : Turn) (after : GroupEvents A) : Type 0 where
  pub index : after.index ≡ before.index
  pub event : GroupEvent
  pub first : events_left before ≡ event ∷ events_left after
  pub is : IsTurn before.index.now which event

abbrev pub TakesTurn : {A : Type 0} → GroupEvents A → Option Turn → GroupEvents A → Type 0
TakesTurn before None after = (events_left before ≡ []) × (events_left after ≡ [])
TakesTurn before (Some which) after = IsTaken before which after

-- a step gives the first event that is left, and none where none is
pub record GivesEvent {A : Type 0} (before : GroupEvents A) (event : Option seen.GroupEvent) (after : GroupEvents A) : Type 0 where
  pub first : YieldsFirstBy event_seen events_left before event after
  pub whole : IfSome event IsWhole

-- a rows event that was skipped
pub record IsSkippedRows (r : PlacedRows) (rows : SkippedRows) : Type 0 where
  pub event : placed rows.event ≡ r.event
  pub id : table_id rows.event.body.now ≡ r.body.id
  pub len : rows.len ≡ length (written_body true (content_of r.kind r.body))

-- what is known of an event that was skipped
abbrev pub IsSkipped : skipped.SkippedEvent → GroupEvent → Type 0
IsSkipped (over.Begin event) e = e ≡ Begins (placed event)
IsSkipped (over.Map event) e = e ≡ Maps (placed event)
IsSkipped (over.Rows rows) e = (r : PlacedRows) × (e ≡ Changes r rows.last) × IsSkippedRows r rows
IsSkipped (over.End event) e = e ≡ Ends (placed event)

-- the first event that is left is skipped, and none where none is
abbrev pub SkipsEvent : {A : Type 0} → GroupEvents A → Option skipped.SkippedEvent → GroupEvents A → Type 0
SkipsEvent before None after = (events_left before ≡ []) × (events_left after ≡ [])
SkipsEvent before (Some event) after = (e : GroupEvent) × (events_left before ≡ e ∷ events_left after) × IsSkipped event e
