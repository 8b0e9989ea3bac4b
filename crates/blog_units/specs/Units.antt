-- The units of a log: what of it is undone, or refused, by itself. A unit is a transaction, or what stands outside of
-- transactions and may not stand there, with the Gtid event in front of it.
use Rattle.std.specs.Prelude.{ℕ, ◌+◌, ◌==◌, ◌&&◌, ◌||◌, Bool, true, false, not, nat_le, nat_lt, if◌then◌else◌, List, [], ◌∷◌, length, take, drop, filter, find, min, Option, Some, None, option_map, bytes_eq, codes, slice_index}
use Rattle.std.specs.Option.{option_map_or}
use Rattle.byteorder.specs.Endian.{little_number}
use Rattle.blog_event.specs.Event.{Event, event_size}
use Rattle.blog_event.specs.File.{Placed, placed_from, read}
use Rattle.blog_row.specs.declared.event_kinds.EventKind.{EventKind}
use Rattle.blog_row.specs.declared.event_kinds.EventKind.TheVariants as kind
use Rattle.blog_row.specs.Kinds.{query_text, is_begin_kind}
use Rattle.blog_trans.specs.Places.{kind_at, is_end, is_rows}
use Rattle.blog_trans.specs.Selection.{Selection}
use Rattle.blog_trans.specs.Groups.{cons_if}
use Rattle.blog_units.specs.declared.part.Part.{Part}
use Rattle.blog_units.specs.declared.part.Part.TheVariants.{Gtid, Transaction, Statement}

-- ---- which events a unit has

-- what a unit has that begins with an event of this kind; None where it begins none: it may stand between units
abbrev pub opened_by : EventKind → Option Part
opened_by kind.Gtid = Some Gtid
opened_by kind.Begin = Some Transaction
opened_by kind.BetweenTransactions = None
opened_by kind.RowsQuery = None
opened_by kind.Skippable = None
opened_by _ = Some Statement

-- maps and rows, and what may stand among them
abbrev pub is_of_rows : EventKind → Bool
is_of_rows kind.TableMap = true
is_of_rows (kind.Rows rows) = true
is_of_rows kind.PartialRows = true
is_of_rows kind.RowsQuery = true
is_of_rows kind.Skippable = true
is_of_rows _ = false

abbrev pub is_gtid_kind : EventKind → Bool
is_gtid_kind kind.Gtid = true
is_gtid_kind _ = false

-- a unit that has this goes on with an event of this kind: none with a Gtid event, a transaction with no `BEGIN`, and a
-- statement outside of transactions with its rows alone
abbrev pub goes_on : Part → EventKind → Bool
goes_on Gtid k = not (is_gtid_kind k)
goes_on Transaction k = not (is_gtid_kind k) && not (is_begin_kind k)
goes_on Statement k = is_of_rows k

-- a whole transaction is rolled back
abbrev pub is_rollback : Placed → Bool
is_rollback p = p.event.kind == 2 && option_map_or (λ text. bytes_eq text (codes "ROLLBACK")) (query_text p.event.body) false

-- behind a Gtid event
abbrev pub after_gtid : EventKind → Part
after_gtid kind.Begin = Transaction
after_gtid kind.RowsQuery = Gtid
after_gtid kind.Skippable = Gtid
after_gtid _ = Statement

-- what a unit that goes on with an event has then, None where it ends with it
abbrev pub continued : Part → Placed → Option Part
continued Gtid p = Some (after_gtid (kind_at p))
continued Transaction p = if is_end p || is_rollback p then None else Some Transaction
continued Statement p = Some Statement

-- events of an open unit, of those that follow
abbrev pub rest_of : Option Part → List Placed → List Placed
rest_of None ps = []
rest_of (Some part) [] = []
rest_of (Some part) (p ∷ ps) = if goes_on part (kind_at p) then p ∷ rest_of (continued part p) ps else []

-- what a unit has behind events with which it goes on
abbrev pub part_behind : Option Part → List Placed → Option Part
part_behind part [] = part
part_behind None (p ∷ ps) = None
part_behind (Some part) (p ∷ ps) = part_behind (continued part p) ps

-- it isn't a transaction that has no end, or a Gtid event without one
abbrev pub is_whole : Option Part → Bool
is_whole (Some Gtid) = false
is_whole (Some Transaction) = false
is_whole _ = true

-- a unit: its first event and the others
pub record Unit : Type 0 where
  pub first : Placed
  pub rest : List Placed

-- the units of events that stand outside of units
abbrev pub begun : EventKind → Placed → List Placed → (Option Part → List Unit) → List Unit
begun k p ps later = cons_if (option_map (λ part. record { first = p; rest = rest_of (Some part) ps }) (opened_by k)) (later (opened_by k))

-- the units that begin among events, which follow an open unit where there is one
abbrev pub units_in : Option Part → List Placed → List Unit
units_in part [] = []
units_in None (p ∷ ps) = begun (kind_at p) p ps (λ part. units_in part ps)
units_in (Some part) (p ∷ ps) =
    if goes_on part (kind_at p) then units_in (continued part p) ps else begun (kind_at p) p ps (λ part. units_in part ps)

-- those of a log: of its events behind the first
unfoldable pub units : List ℕ → List Unit
units bytes = units_in None (drop 1 (placed_from 4 (read bytes None)))

-- those of the events of a log, behind the first, that begin at a position or after it
abbrev pub events_from : List ℕ → ℕ → List Placed
events_from bytes at = filter (λ p. nat_le at p.pos) (drop 1 (placed_from 4 (read bytes None)))

abbrev pub units_from : List ℕ → ℕ → List Unit
units_from bytes at = units_in None (events_from bytes at)

-- ---- what is told of a unit

-- the position behind events that follow others, which end at a position
abbrev pub end_behind : ℕ → List Placed → ℕ
end_behind at [] = at
end_behind at (p ∷ ps) = end_behind (p.pos + event_size p.event) ps

-- a Query or a rows event
abbrev pub is_query_or_rows : Placed → Bool
is_query_or_rows p = p.event.kind == 2 || (is_rows p || p.event.kind == 39)

-- a query of any text, whose body has its layout
abbrev pub is_query_kind : EventKind → Bool
is_query_kind kind.Begin = true
is_query_kind kind.Commit = true
is_query_kind kind.Rollback = true
is_query_kind kind.Savepoint = true
is_query_kind kind.OtherQuery = true
is_query_kind _ = false

abbrev pub is_query : Placed → Bool
is_query p = is_query_kind (kind_at p)

-- the thread that wrote a Query event: the first 4 bytes of its body (MySQL Internals manual, "Query_event")
unfoldable pub thread_of : Placed → ℕ
thread_of p = little_number 4 p.event.body

-- a global transaction id: the 16 bytes of the server's, a tag, and a number (MySQL Internals manual, "Gtid_event")
pub record Id : Type 0 where
  pub server : List ℕ
  pub tag : List ℕ
  pub number : ℕ

-- behind the 25 bytes of a body the byte 42 and a tag
abbrev pub tag_of : List ℕ → List ℕ
tag_of body = if nat_lt 26 (length body) && slice_index body 25 == 42 then drop 26 body else []

-- that of a GTID_LOG_EVENT: a byte of flags, the server's, the number, 8 bytes; and a tag
abbrev pub id_of : Event → Option Id
id_of e =
    if e.kind == 33 && nat_le 25 (length e.body)
    then Some (record { server = take 16 (drop 1 e.body); tag = tag_of e.body; number = little_number 8 (drop 17 e.body) }) else None

-- Where a unit starts and where it stops, in bytes from the file's start; the time of its first Query or rows event, of its
-- first event where there is none, in seconds since 1970 in UTC; the thread that wrote its first Query event, where it has one
-- that can be read; its global transaction id, where it begins with one; and whether it is whole.
pub record Facts : Type 0 where
  pub start : ℕ
  pub stop : ℕ
  pub time : ℕ
  pub thread : Option ℕ
  pub id : Option Id
  pub whole : Bool

abbrev pub facts_of : Unit → Facts
facts_of u = record {
  start = u.first.pos;
  stop = end_behind (u.first.pos + event_size u.first.event) u.rest;
  time = option_map_or (λ p. p.event.timestamp) (find is_query_or_rows (u.first ∷ u.rest)) u.first.event.timestamp;
  thread = option_map thread_of (find is_query (u.first ∷ u.rest));
  id = id_of u.first.event;
  whole = is_whole (part_behind (opened_by (kind_at u.first)) u.rest);
}

-- the range from a start to a stop, of all tables
abbrev pub between : ℕ → ℕ → Selection
between start stop = record { start = start; stop = Some stop; database = None; table = None }

-- a stop, where there is one, is behind a position
abbrev pub is_behind : Option ℕ → ℕ → Bool
is_behind stop at = option_map_or (λ stop. nat_lt at stop) stop true

-- the range of a unit with these facts, up to the stop of a selection, of the selection's tables
abbrev pub range_of_unit : Selection → Facts → Selection
range_of_unit sel u = record sel { start = u.start; stop = Some (option_map_or (λ stop. min stop u.stop) sel.stop u.stop) }
