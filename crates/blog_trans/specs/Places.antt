-- Where an event stands, found by looking back. In all of this file `earlier` has the events of the range before one,
-- the latest first.
use Rattle.std.specs.Prelude.{ℕ, Bool, true, false, ◌&&◌, ◌||◌, not, List, [], ◌∷◌, find, Option, Some, None, is_some, bytes_eq}
use Rattle.std.specs.Option.{option_map_or}
use Rattle.blog_event.specs.declared.event.Event as told
use Rattle.blog_event.specs.Event.{event_of}
use Rattle.blog_event.specs.File.{Placed}
use Rattle.blog_event.specs.Format.{front_while}
use Rattle.blog_row.specs.RowsEvent.{table_id, has_end_flag}
use Rattle.blog_row.specs.declared.event_kinds.EventKind.{EventKind}
use Rattle.blog_row.specs.declared.event_kinds.EventKind.TheVariants as kind
use Rattle.blog_row.specs.Kinds.{kind_of, is_begin_kind, is_end_kind, is_map_kind, rows_of_kind}
use Rattle.blog_trans.specs.declared.place.Place.{Place}
use Rattle.blog_trans.specs.declared.place.Place.TheVariants.{Outside, AfterGtid, Inside}

-- an event of the program with its place
abbrev pub placed : told.Event → Placed
placed e = record { pos = e.pos; event = event_of e }

-- ---- tests of events

abbrev pub kind_at : Placed → EventKind
kind_at p = kind_of p.event

abbrev pub is_begin : Placed → Bool
is_begin p = is_begin_kind (kind_at p)

abbrev pub is_end : Placed → Bool
is_end p = is_end_kind (kind_at p)

abbrev pub is_map : Placed → Bool
is_map p = is_map_kind (kind_at p)

abbrev pub is_rows : Placed → Bool
is_rows p = is_some (rows_of_kind (kind_at p))

-- a rows event with the end flag
abbrev pub is_last_rows : Placed → Bool
is_last_rows p = is_rows p && has_end_flag p.event.body

-- ---- place

-- where an event of this kind leads, if it leads anywhere
abbrev pub leads_to : EventKind → Option Place
leads_to kind.Begin = Some Inside
leads_to kind.Commit = Some Outside
leads_to kind.Xid = Some Outside
leads_to kind.Gtid = Some AfterGtid
leads_to _ = None

-- where the last event that leads anywhere led
abbrev pub place : List Placed → Place
place [] = Outside
place (p ∷ earlier) = option_map_or (λ led. led) (leads_to (kind_at p)) (place earlier)

abbrev pub is_inside : Place → Bool
is_inside Inside = true
is_inside _ = false

abbrev pub is_outside : Place → Bool
is_outside Outside = true
is_outside _ = false

-- ---- statement

-- the events after the last `BEGIN` and the last rows event with the end flag, the latest first
abbrev pub since : List Placed → List Placed
since earlier = front_while (λ p. not (is_begin p || is_last_rows p)) earlier

abbrev pub is_map_of : List ℕ → Placed → Bool
is_map_of id p = is_map p && bytes_eq (table_id p.event.body) id

-- the first map of a table id among events in file order
abbrev pub map_in : List Placed → List ℕ → Option Placed
map_in events id = find (is_map_of id) events
