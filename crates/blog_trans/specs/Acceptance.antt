-- Which logs are accepted under a selection, and the first fault of each other log
-- (MySQL Internals manual, "Event Classes and Types", "Query_event", "Xid_event", "Table_map_event", "Rows_event").
-- `earlier` has the events before one, the latest first.
use Rattle.std.specs.Prelude.{◌≡◌, ℕ, ◌+◌, ◌^◌, Bool, true, false, ◌&&◌, not, if◌then◌else◌, List, [], ◌∷◌, length, take, reverse, filter, Option, Some, None, Result, Ok, Err, nat_lt, nat_le, ◌==◌, bytes_eq, is_some, ◌⊎◌}
use Rattle.std.specs.Option.{option_map_or}
use Rattle.std.specs.List.{list_any}
use Rattle.blog_event.specs.declared.fault.Fault.{Fault}
use Rattle.blog_event.specs.declared.fault.Fault.TheVariants.{NotABinlog, CutEvent, NoEventAt, Statement, RolledBack, OutOfPlace, Unended, NoMap, MapClash, PartialImage, UnknownType, BadBody, UnknownEvent, TooLong, OutOfMemory}
use Rattle.blog_event.specs.Fault.{Cause, needs, first_failing, fault_at}
use Rattle.blog_event.specs.Event.{Event, event_size}
use Rattle.blog_event.specs.File.{magic, Placed, placed_from, end_of, is_below, read}
use Rattle.blog_event.specs.Format.{format_fault}
use Rattle.blog_row.specs.declared.fault.RowFault.{RowFault}
use Rattle.blog_row.specs.declared.fault.RowFault.TheVariants as row
use Rattle.blog_row.specs.declared.kind.RowsKind.{RowsKind}
use Rattle.blog_row.specs.Column.{Layout}
use Rattle.blog_row.specs.TableMap.{Table, Names, names_of, layout_of, is_same_layout}
use Rattle.blog_row.specs.RowsEvent.{RowsBody, rows_of, table_id, fixed_len}
use Rattle.blog_row.specs.declared.event_kinds.EventKind.{EventKind}
use Rattle.blog_row.specs.declared.event_kinds.EventKind.TheVariants as kind
use Rattle.blog_trans.specs.Selection.{Selection, is_wanted}
use Rattle.blog_trans.specs.Places.{kind_at, is_map, is_rows, place, is_inside, is_outside, since, is_map_of, map_in}

-- ---- bodies

-- the cause of the same name
abbrev pub cause_of_row : RowFault → Cause
cause_of_row row.PartialImage = PartialImage
cause_of_row row.UnknownType = UnknownType
cause_of_row row.BadBody = BadBody

-- why a body isn't read
abbrev pub cause_of : {A : Type 0} → Result A RowFault → Option Cause
cause_of (Ok read) = None
cause_of (Err fault) = Some (cause_of_row fault)

-- the table of a map's body is selected
abbrev pub is_selected : Selection → List ℕ → Bool
is_selected sel body = option_map_or (λ names. is_wanted sel.database names.table.schema && is_wanted sel.table names.table.name) (names_of body) false

abbrev pub rows_under : RowsKind → Result Layout RowFault → List ℕ → Result RowsBody RowFault
rows_under kind (Ok layout) body = rows_of kind layout body
rows_under kind (Err fault) body = Err fault

-- what is read of a rows event by the body of its map
abbrev pub rows_by_map : RowsKind → List ℕ → List ℕ → Result RowsBody RowFault
rows_by_map kind map body = rows_under kind (layout_of map) body

-- ---- clashes of maps

-- a map of the same id with another body
abbrev pub clashes_by_id : Placed → Placed → Bool
clashes_by_id p other = is_map_of (table_id p.event.body) other && not (bytes_eq other.event.body p.event.body)

-- equal names
abbrev pub is_same_table : Table → Table → Bool
is_same_table t u = bytes_eq t.schema u.schema && bytes_eq t.name u.name

abbrev pub are_of_same_table : Option Names → Option Names → Bool
are_of_same_table (Some a) (Some b) = is_same_table a.table b.table
are_of_same_table (Some a) None = false
are_of_same_table None b = false

abbrev pub have_same_layout : Result Layout RowFault → Result Layout RowFault → Bool
have_same_layout (Ok a) (Ok b) = is_same_layout a b
have_same_layout (Ok a) (Err e) = false
have_same_layout (Err e) r = false

-- a map of the same names with another layout
abbrev pub clashes_by_layout : Placed → Placed → Bool
clashes_by_layout p other =
    is_map other && (are_of_same_table (names_of other.event.body) (names_of p.event.body) && not (have_same_layout (layout_of other.event.body) (layout_of p.event.body)))

-- ---- the checks of an event of the range, by its kind and in order

-- of a `COMMIT` or an Xid: no statement is open
abbrev pub end_checks : List Placed → List (Option Cause)
end_checks earlier = needs (is_inside (place earlier)) OutOfPlace ∷ needs (not (list_any is_rows (since earlier))) Unended ∷ []

-- of the map of a selected table
abbrev pub selected_map_checks : List Placed → Placed → List (Option Cause)
selected_map_checks earlier p = cause_of (layout_of p.event.body) ∷ needs (not (list_any (clashes_by_layout p) earlier)) MapClash ∷ []

-- of a rows event: by its map, if it has one
abbrev pub rows_check : Selection → RowsKind → List ℕ → Option Placed → Option Cause
rows_check sel rows body None = Some NoMap
rows_check sel rows body (Some map) = if is_selected sel map.event.body then cause_of (rows_by_map rows map.event.body body) else None

-- each kind's line of checks
abbrev pub checks : Selection → List Placed → Placed → EventKind → List (Option Cause)
checks sel earlier p kind.Begin = needs (not (is_inside (place earlier))) OutOfPlace ∷ []
checks sel earlier p kind.Commit = end_checks earlier
checks sel earlier p kind.Rollback = Some RolledBack ∷ []
checks sel earlier p kind.Savepoint = needs (is_inside (place earlier)) OutOfPlace ∷ []
checks sel earlier p kind.OtherQuery = Some Statement ∷ []
checks sel earlier p kind.BadQuery = Some BadBody ∷ []
checks sel earlier p kind.Xid = needs (length p.event.body == 8) BadBody ∷ end_checks earlier
checks sel earlier p kind.Gtid = needs (is_outside (place earlier)) OutOfPlace ∷ []
checks sel earlier p kind.BetweenTransactions = needs (is_outside (place earlier)) OutOfPlace ∷ []
checks sel earlier p kind.RowsQuery = []
checks sel earlier p kind.StatementChange = Some Statement ∷ []
checks sel earlier p kind.SecondFormat = Some OutOfPlace ∷ []
checks sel earlier p kind.TableMap =
    needs (is_inside (place earlier)) OutOfPlace ∷ needs (is_some (names_of p.event.body)) BadBody
    ∷ needs (not (list_any (clashes_by_id p) (since earlier))) MapClash
    ∷ (if is_selected sel p.event.body then selected_map_checks earlier p else [])
checks sel earlier p (kind.Rows rows) =
    needs (is_inside (place earlier)) OutOfPlace ∷ needs (nat_le (fixed_len rows.version) (length p.event.body)) BadBody
    ∷ rows_check sel rows p.event.body (map_in (reverse (since earlier)) (table_id p.event.body)) ∷ []
checks sel earlier p kind.PartialRows = Some PartialImage ∷ []
checks sel earlier p kind.Skippable = []
checks sel earlier p kind.Unknown = Some UnknownEvent ∷ []

-- the first check of an event that fails
abbrev pub event_fault : Selection → List Placed → Placed → Option Cause
event_fault sel earlier p = first_failing (checks sel earlier p (kind_at p))

-- each of the events has passed. They stand latest first.
abbrev pub HavePassed : Selection → List Placed → Type 0
HavePassed sel [] = Unit {0}
HavePassed sel (p ∷ earlier) = (event_fault sel earlier p ≡ None) × HavePassed sel earlier

-- each of these events passes in turn. They stand in order, behind the earlier ones, which stand latest first.
abbrev pub Passes : Selection → List Placed → List Placed → Type 0
Passes sel earlier [] = Unit {0}
Passes sel earlier (p ∷ ps) = (event_fault sel earlier p ≡ None) × Passes sel (p ∷ earlier) ps

-- ---- the range

-- not the event at 4, and not before the start
abbrev pub is_in_range : Selection → Placed → Bool
is_in_range sel p = nat_lt 4 p.pos && nat_le sel.start p.pos

-- the events of the range, in order
abbrev pub range : Selection → List Placed → List Placed
range sel events = filter (is_in_range sel) events

-- ---- the fault of the log

-- the start is below the stop and lies strictly inside the event
abbrev pub is_start_inside : Selection → Placed → Bool
is_start_inside sel p = is_below sel.start sel.stop && (nat_lt p.pos sel.start && nat_lt sel.start (p.pos + event_size p.event))

-- what decides at an event that is read
abbrev pub read_fault : Selection → List Placed → Placed → Option Fault
read_fault sel earlier p = first_failing (
    fault_at sel.start (needs (not (is_start_inside sel p)) NoEventAt)
    ∷ (if is_in_range sel p then fault_at p.pos (event_fault sel (range sel earlier) p) else None) ∷ [])

-- of the first event that has one
abbrev pub first_read_fault : Selection → List Placed → List Placed → Option Fault
first_read_fault sel earlier [] = None
first_read_fault sel earlier (p ∷ ps) = first_failing (read_fault sel earlier p ∷ first_read_fault sel (p ∷ earlier) ps ∷ [])

abbrev pub has_first : List Event → Bool
has_first [] = false
has_first (e ∷ es) = true

-- the first check of the event at 4 that fails
abbrev pub first_format_fault : List Event → Option Cause
first_format_fault [] = None
first_format_fault (e ∷ es) = format_fault e

-- a rest is left that begins below the stop
abbrev pub is_cut : List ℕ → Selection → List Event → Bool
is_cut bytes sel events = is_below (end_of 4 events) sel.stop && not (end_of 4 events == length bytes)

-- what decides of a log whose events these are, in order
abbrev pub lines : List ℕ → Selection → List Event → List (Option Fault)
lines bytes sel events =
    fault_at 0 (needs (nat_lt (length bytes) (2 ^ 32)) TooLong)
    ∷ fault_at 0 (needs (bytes_eq (take 4 bytes) magic) NotABinlog)
    ∷ fault_at 4 (needs (has_first events) CutEvent)
    ∷ fault_at 4 (first_format_fault events)
    ∷ first_read_fault sel [] (placed_from 4 events)
    ∷ fault_at (end_of 4 events) (needs (not (is_cut bytes sel events)) CutEvent)
    ∷ fault_at sel.start (needs (not (is_below sel.start sel.stop && nat_lt (length bytes) sel.start)) NoEventAt)
    ∷ fault_at (end_of 4 events) (needs (is_outside (place (reverse (range sel (placed_from 4 events))))) Unended)
    ∷ []

-- the fault of the log, None where it is accepted
unfoldable pub fault : List ℕ → Selection → Option Fault
fault bytes sel = first_failing (lines bytes sel (read bytes sel.stop))

-- no fault is there
abbrev pub IsAccepted : List ℕ → Selection → Type 0
IsAccepted bytes sel = fault bytes sel ≡ None

-- how a log is refused: memory was refused, or this is its fault
abbrev pub IsRefusal : Option Fault → Fault → Type 0
IsRefusal wanted fault = (fault ≡ OutOfMemory) ⊎ (wanted ≡ Some fault)
