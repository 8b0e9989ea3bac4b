-- What an event is to a reader of the log, by its type, its header flags and, for a query, its text
-- (MySQL Internals manual, "Event Classes and Types", "Query_event").
use Rattle.std.specs.Prelude.{ℕ, ◌+◌, ◌/◌, ◌%◌, Bool, ◌&&◌, ◌||◌, true, false, if◌then◌else◌, List, [], ◌∷◌, length, take, drop, Option, Some, None, nat_lt, nat_le, ◌==◌, bytes_eq, slice_index, codes}
use Rattle.std.specs.Option.{option_map_or}
use Rattle.byteorder.specs.Endian.{little_number}
use Rattle.blog_event.specs.Event.{Event}
use Rattle.blog_row.specs.Column.{is_one_of}
use Rattle.blog_row.specs.RowsKind.{rows_kind_of}
use Rattle.blog_row.specs.declared.kind.RowsKind.{RowsKind}
use Rattle.blog_row.specs.declared.event_kinds.EventKind.{EventKind}
use Rattle.blog_row.specs.declared.event_kinds.EventKind.TheVariants as kind

-- ---- queries

-- the text of a query, if the body has its layout: 13 fixed bytes, status bytes, schema, a zero byte, the text
unfoldable pub query_text : List ℕ → Option (List ℕ)
query_text body =
    let zero_at = 13 + (little_number 2 (drop 11 body) + slice_index body 8) in
    if nat_le 13 (length body) && (nat_lt zero_at (length body) && slice_index body zero_at == 0) then Some (drop (zero_at + 1) body) else None

-- the text begins with the front
abbrev pub begins_with : List ℕ → List ℕ → Bool
begins_with front text = bytes_eq (take (length front) text) front

unfoldable pub query_kind : List ℕ → EventKind
query_kind text =
    if bytes_eq text (codes "BEGIN") then kind.Begin else
    if bytes_eq text (codes "COMMIT") then kind.Commit else
    if bytes_eq text (codes "ROLLBACK") || begins_with (codes "ROLLBACK TO ") text then kind.Rollback else
    if begins_with (codes "SAVEPOINT ") text then kind.Savepoint else kind.OtherQuery

-- ---- events

-- header flag 0x0080: a reader that doesn't know the type may ignore the event
abbrev pub may_be_ignored : ℕ → Bool
may_be_ignored flags = (flags / 0x80) % 2 == 1

-- an event of no other kind: skippable, if its type isn't known here and its header says that it may be ignored
abbrev pub other_kind : ℕ → ℕ → EventKind
other_kind number flags =
    if (is_one_of (0 ∷ 27 ∷ 28 ∷ 36 ∷ []) number || (nat_le 41 number && nat_le number 159)) && may_be_ignored flags then kind.Skippable else kind.Unknown

-- the kinds by type: QUERY_EVENT; XID_EVENT; GTID_LOG_EVENT, ANONYMOUS_GTID_LOG_EVENT; STOP_EVENT, ROTATE_EVENT,
-- PREVIOUS_GTIDS_LOG_EVENT; ROWS_QUERY_LOG_EVENT; the kinds of statement-based logging, and the old start event; a further
-- FORMAT_DESCRIPTION_EVENT; TABLE_MAP_EVENT; PARTIAL_UPDATE_ROWS_EVENT; rows events; any other
unfoldable pub kind_of : Event → EventKind
kind_of e =
    if e.kind == 2 then option_map_or query_kind (query_text e.body) kind.BadQuery else
    if e.kind == 16 then kind.Xid else
    if is_one_of (33 ∷ 34 ∷ []) e.kind then kind.Gtid else
    if is_one_of (3 ∷ 4 ∷ 35 ∷ []) e.kind then kind.BetweenTransactions else
    if e.kind == 29 then kind.RowsQuery else
    if is_one_of (1 ∷ 5 ∷ 6 ∷ 7 ∷ 8 ∷ 9 ∷ 10 ∷ 11 ∷ 12 ∷ 13 ∷ 14 ∷ 17 ∷ 18 ∷ []) e.kind then kind.StatementChange else
    if e.kind == 15 then kind.SecondFormat else
    if e.kind == 19 then kind.TableMap else
    if e.kind == 39 then kind.PartialRows else
    option_map_or kind.Rows (rows_kind_of e.kind) (other_kind e.kind e.flags)

-- ---- tests of kinds

abbrev pub is_begin_kind : EventKind → Bool
is_begin_kind kind.Begin = true
is_begin_kind _ = false

-- a `COMMIT` or an Xid
abbrev pub is_end_kind : EventKind → Bool
is_end_kind kind.Commit = true
is_end_kind kind.Xid = true
is_end_kind _ = false

abbrev pub is_map_kind : EventKind → Bool
is_map_kind kind.TableMap = true
is_map_kind _ = false

abbrev pub rows_of_kind : EventKind → Option RowsKind
rows_of_kind (kind.Rows rows) = Some rows
rows_of_kind _ = None
