-- What the laws of a source speak of.
use Rattle.std.specs.Prelude.{◌≡◌, ◌⊎◌, ℕ, ◌+◌, Bool, false, List, [], ◌∷◌, ◌++◌, map, drop, None, Some}
use Rattle.std.specs.List.{AllByRecursion}
use Rattle.blog_event.specs.Event.{Event, event_at, event_size, unplaced}
use Rattle.blog_event.specs.File.{Placed, placed_from, end_of}
use Rattle.blog_sum.specs.Sums.{has_sums}
use Rattle.blog_source.specs.declared.reading.Reading.{Reading}
use Rattle.blog_source.specs.Found.{as_damaged, begins_encryption, found_of}
use Rattle.blog_source.specs.declared.becoming.Becoming.TheVariants.{Itself}
use Rattle.blog_source.specs.Becoming.{becoming_of}
use Rattle.blog_source.specs.Handed.{handed}
use Rattle.blog_source.specs.Places.{first_of}

-- a log is read to its end, or to its first fault
abbrev pub whole_reading : Reading
whole_reading = record { stop = None; skip_damaged = false }

-- An event behind the format description that is handed out; the position at which it begins in the log that is handed out;
-- the event of the server's log for which it stands, at its place, as a damaged one if it was passed over; and where the first event begins that is handed out for that.
pub record HandedOut : Type 0 where
  pub event : Event
  pub at : ℕ
  pub source : Placed
  pub first : ℕ

-- those for one event of the server's log, from a position on
abbrev pub handed_for : Placed → ℕ → List Event → List HandedOut
handed_for p pos es = map {A = Placed} (λ q. record { event = q.event; at = q.pos; source = p; first = pos }) (placed_from pos es)

-- those for all of these
abbrev pub handed_from : Bool → ℕ → List Placed → List HandedOut
handed_from sums pos [] = []
handed_from sums pos (p ∷ ps) = handed_for p pos (handed sums p) ++ handed_from sums (end_of pos (handed sums p)) ps

-- those for a log
abbrev pub handed_out : Reading → List ℕ → List HandedOut
handed_out how bytes = handed_from (has_sums bytes) (first_of bytes) (found_of how bytes).kept

-- such an event, at its place in the log that is handed out
abbrev pub placed_of : HandedOut → Placed
placed_of h = record { pos = h.at; event = h.event }

-- an event of a log is at its place, as it is or as a damaged one
abbrev pub StandsIn : List ℕ → Placed → Type 0
StandsIn bytes p =
    (event_at (drop p.pos bytes) ≡ Some p.event) ⊎ ((e : Event) × (event_at (drop p.pos bytes) ≡ Some e) × (p ≡ as_damaged (record { pos = p.pos; event = e })))

-- it begins at the same position in both logs, and is the same event but for log_pos
abbrev pub IsUnmoved : HandedOut → Type 0
IsUnmoved h = (h.at ≡ h.source.pos) × (unplaced h.event ≡ unplaced h.source.event)

-- each of the events that are read stays itself, as all do but tagged GTID events and some that only MariaDB writes; and nothing
-- is encrypted behind it
abbrev pub StaysItself : Event → Type 0
StaysItself e = (becoming_of e.kind e.body ≡ Itself) × (begins_encryption e ≡ false)

abbrev pub StayThemselves : List Event → Type 0
StayThemselves es = AllByRecursion StaysItself (drop 1 es)

-- its log_pos is where it ends
abbrev pub IsEnded : Placed → Type 0
IsEnded p = p.event.log_pos ≡ p.pos + event_size p.event
