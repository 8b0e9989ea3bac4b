-- The groups of a log under a selection: transactions of statements of table maps and rows events. First as they stand
-- in the log, each event with its place; then as values, without what the text of the groups doesn't copy.
use Rattle.std.specs.Prelude.{ℕ, ◌&&◌, not, if◌then◌else◌, List, [], ◌∷◌, map, filter, find, Option, Some, None, Result, Ok, Err, option_and_then, option_map, bytes_eq}
use Rattle.std.specs.List.{cons_option, list_any, filter_map}
use Rattle.blog_event.specs.Event.{Event, unplaced}
use Rattle.blog_event.specs.File.{Placed, placed_from, read}
use Rattle.blog_event.specs.Format.{front_while}
use Rattle.blog_row.specs.declared.fault.RowFault.{RowFault}
use Rattle.blog_row.specs.declared.kind.RowsKind.{RowsKind}
use Rattle.blog_row.specs.RowsEvent.{RowsBody, table_id}
use Rattle.blog_row.specs.RowsWriting.{RowsContent, content_of}
use Rattle.blog_row.specs.declared.event_kinds.EventKind.{EventKind}
use Rattle.blog_row.specs.declared.event_kinds.EventKind.TheVariants as kind
use Rattle.blog_trans.specs.Selection.{Selection}
use Rattle.blog_trans.specs.Places.{kind_at, is_begin, is_end, is_map, is_last_rows, map_in}
use Rattle.blog_trans.specs.Acceptance.{is_selected, rows_by_map, range}

-- ---- as they stand in the log

-- a rows event that is kept: the event, the map that it goes by, and what its body says
pub record PlacedRows : Type 0 where
  pub event : Placed
  pub map : Placed
  pub kind : RowsKind
  pub body : RowsBody

-- a statement: the maps that its kept rows events go by, and these
pub record PlacedStatement : Type 0 where
  pub maps : List Placed
  pub rows : List PlacedRows

-- a transaction: `BEGIN`, its kept statements, and `COMMIT` or Xid
pub record PlacedTransaction : Type 0 where
  pub begin : Placed
  pub statements : List PlacedStatement
  pub end : Placed

-- a transaction: `BEGIN`, the events up to the next `COMMIT` or Xid, and that one
pub record Span : Type 0 where
  pub begin : Placed
  pub inside : List Placed
  pub end : Placed

abbrev pub cons_if : {A : Type 0} → Option A → List A → List A
cons_if o xs = cons_option o xs

-- the transactions of events; a `BEGIN` without an end behind it begins none
abbrev pub spans : List Placed → List Span
spans [] = []
spans (p ∷ ps) =
    if is_begin p then cons_if (option_map (λ end. record { begin = p; inside = front_while (λ x. not (is_end x)) ps; end = end }) (find is_end ps)) (spans ps)
    else spans ps

abbrev pub onto_first : Placed → List (List Placed) → List (List Placed)
onto_first p [] = []
onto_first p (s ∷ ss) = (p ∷ s) ∷ ss

-- cut behind each rows event with the end flag; what follows the last one is in no statement
abbrev pub statements_of : List Placed → List (List Placed)
statements_of [] = []
statements_of (p ∷ ps) = if is_last_rows p then (p ∷ []) ∷ statements_of ps else onto_first p (statements_of ps)

abbrev pub rows_if : Placed → Placed → RowsKind → Result RowsBody RowFault → Option PlacedRows
rows_if p map rows (Ok body) = Some (record { event = p; map = map; kind = rows; body = body })
rows_if p map rows (Err fault) = None

abbrev pub rows_by_kind : Placed → Placed → EventKind → Option PlacedRows
rows_by_kind p map (kind.Rows rows) = rows_if p map rows (rows_by_map rows map.event.body p.event.body)
rows_by_kind p map _ = None

-- A rows event of a statement is kept if its table is selected. Its map is the statement's first of its id; in an accepted
-- log that is the one by which the rows event was checked.
abbrev pub kept_rows : Selection → List Placed → Placed → Option PlacedRows
kept_rows sel statement p =
    option_and_then (λ map. if is_selected sel map.event.body then rows_by_kind p map (kind_at p) else None) (map_in statement (table_id p.event.body))

-- the table ids that rows events go by
abbrev pub ids_of : List PlacedRows → List (List ℕ)
ids_of rows = map (λ x. table_id x.event.event.body) rows

-- the first map of each of these table ids
abbrev pub first_maps : List (List ℕ) → List Placed → List Placed
first_maps ids [] = []
first_maps ids (p ∷ ps) =
    if is_map p && list_any (λ id. bytes_eq (table_id p.event.body) id) ids
    then p ∷ first_maps (filter (λ id. not (bytes_eq (table_id p.event.body) id)) ids) ps
    else first_maps ids ps

-- a statement without kept rows events is left out
abbrev pub statement_if : List Placed → List PlacedRows → Option PlacedStatement
statement_if events [] = None
statement_if events (r ∷ rows) = Some (record { maps = first_maps (ids_of (r ∷ rows)) events; rows = r ∷ rows })

abbrev pub kept_statement : Selection → List Placed → Option PlacedStatement
kept_statement sel events = statement_if events (filter_map (kept_rows sel events) events)

-- a transaction without kept statements is left out
abbrev pub transaction_if : Span → List PlacedStatement → Option PlacedTransaction
transaction_if span [] = None
transaction_if span (s ∷ statements) = Some (record { begin = span.begin; statements = s ∷ statements; end = span.end })

abbrev pub kept_transaction : Selection → Span → Option PlacedTransaction
kept_transaction sel span = transaction_if span (filter_map (kept_statement sel) (statements_of span.inside))

-- the groups of events
abbrev pub placed_groups_in : Selection → List Placed → List PlacedTransaction
placed_groups_in sel events = filter_map (kept_transaction sel) (spans events)

-- the groups of a log, as they stand in it
unfoldable pub placed_groups : List ℕ → Selection → List PlacedTransaction
placed_groups bytes sel = placed_groups_in sel (range sel (placed_from 4 (read bytes sel.stop)))

-- ---- as values

-- A rows event but for its place, its extra bytes and its end flag, with its map's body. Events of the other kinds are
-- kept but for log_pos.
pub record RowsEvent : Type 0 where
  pub timestamp : ℕ
  pub server_id : ℕ
  pub header_flags : ℕ
  pub map : List ℕ
  pub content : RowsContent

-- the maps and rows events of a statement
pub record Statement : Type 0 where
  pub maps : List Event
  pub rows : List RowsEvent

-- `BEGIN`, the statements, and the end event
pub record Transaction : Type 0 where
  pub begin : Event
  pub statements : List Statement
  pub end : Event

abbrev pub rows_value : PlacedRows → RowsEvent
rows_value r = record {
  timestamp = r.event.event.timestamp;
  server_id = r.event.event.server_id;
  header_flags = r.event.event.flags;
  map = r.map.event.body;
  content = content_of r.kind r.body;
}

abbrev pub event_value : Placed → Event
event_value p = unplaced p.event

abbrev pub statement_value : PlacedStatement → Statement
statement_value s = record { maps = map event_value s.maps; rows = map rows_value s.rows }

abbrev pub transaction_value : PlacedTransaction → Transaction
transaction_value t = record { begin = event_value t.begin; statements = map statement_value t.statements; end = event_value t.end }

-- the groups of a log
unfoldable pub groups : List ℕ → Selection → List Transaction
groups bytes sel = map transaction_value (placed_groups bytes sel)
