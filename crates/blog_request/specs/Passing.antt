-- Which units a choice of tables passes over: statements that name none of the chosen tables.
use Rattle.std.specs.Prelude.{ℕ, ◌+◌, ◌%◌, ◌==◌, Bool, true, false, not, ◌&&◌, ◌||◌, nat_le, List, length, take, drop, Some, slice_index}
use Rattle.std.specs.List.{list_any, list_all, range_with_len}
use Rattle.std.specs.Option.{option_map_or}
use Rattle.byteorder.specs.Endian.{little_number}
use Rattle.blog_event.specs.Event.{Event}
use Rattle.blog_event.specs.File.{Placed, placed_from, events_from}
use Rattle.blog_row.specs.declared.event_kinds.EventKind.{EventKind}
use Rattle.blog_row.specs.declared.event_kinds.EventKind.TheVariants as kind
use Rattle.blog_row.specs.Kinds.{is_begin_kind, query_text}
use Rattle.blog_trans.specs.Places.{kind_at}
use Rattle.blog_choice.specs.Choice.{Choice, chooses_all}
use Rattle.blog_choice.specs.Naming.{names_chosen}

-- the default schema of a query: after 13 fixed bytes and the status bytes (MySQL Internals manual, "Query_event")
unfoldable pub query_schema : List ℕ → List ℕ
query_schema body = take (slice_index body 8) (drop (13 + little_number 2 (drop 11 body)) body)

-- its status variables: as many bytes as two bytes say
abbrev pub query_status : List ℕ → List ℕ
query_status body = take (little_number 2 (drop 11 body)) (drop 13 body)

-- the numbers of the collations of armscii8, sjis and ujis, which in MariaDB there are again from 1,024 on: in these character
-- sets some characters of ASCII have two spellings
abbrev pub is_twin_set : ℕ → Bool
is_twin_set number =
    let n = number % 1024 in
    n == 32 || (n == 64 || (n == 13 || (n == 88 || (n == 12 || n == 91))))

-- at a place of the status variables there is a 4, which says that the client's character set follows, and such a number
abbrev pub is_twin_at : List ℕ → ℕ → Bool
is_twin_at status place = slice_index status place == 4 && (nat_le (place + 3) (length status) && is_twin_set (little_number 2 (drop (place + 1) status)))

-- The client of a query may have such a character set: also where the bytes at that place are another variable's
-- (MySQL Internals manual, "Query_event", Q_CHARSET_CODE).
unfoldable pub may_have_twins : List ℕ → Bool
may_have_twins body = list_any (is_twin_at (query_status body)) (range_with_len 0 (length (query_status body)))

-- a statement names a chosen table; one that can't be read does
abbrev pub names_table : Choice → Bool → Event → Bool
names_table choice inside e = option_map_or (λ text. names_chosen choice (query_schema e.body) text inside (may_have_twins e.body)) (query_text e.body) true

-- what begins or ends a transaction, a savepoint, and what may be ignored
abbrev pub is_bare : EventKind → Bool
is_bare kind.Gtid = true
is_bare kind.Begin = true
is_bare kind.Savepoint = true
is_bare kind.Commit = true
is_bare kind.Xid = true
is_bare kind.RowsQuery = true
is_bare kind.Skippable = true
is_bare _ = false

-- an event leaves the chosen tables alone: it is bare, or a statement that names none of them
abbrev pub leaves_alone : Choice → Bool → EventKind → Event → Bool
leaves_alone choice inside kind.OtherQuery e = not (names_table choice inside e)
leaves_alone choice inside k e = is_bare k

-- the events of a unit, by where it starts and where it stops
abbrev pub unit_events : List ℕ → ℕ → ℕ → List Placed
unit_events bytes start stop = placed_from start (events_from (length bytes) (Some stop) start (drop start bytes))

-- one of them begins a transaction
abbrev pub has_begin : List Placed → Bool
has_begin ps = list_any (λ p. is_begin_kind (kind_at p)) ps

-- each of them leaves the chosen tables alone
abbrev pub all_leave_alone : Choice → Bool → List Placed → Bool
all_leave_alone choice inside ps = list_all (λ p. leaves_alone choice inside (kind_at p) p.event) ps

-- they are passed over: tables are chosen, and each leaves them alone
abbrev pub is_passed_over : Choice → List Placed → Bool
is_passed_over choice ps = not (chooses_all choice) && all_leave_alone choice (has_begin ps) ps
