-- A file: the magic number, and events without gaps (MySQL Internals manual, "Binary Log Structure and Contents").
use Rattle.std.specs.Prelude.{◌≡◌, ℕ, zero, suc, ◌+◌, ◌<◌, ◌≤◌, Bool, true, if◌then◌else◌, List, [], ◌∷◌, ◌++◌, length, take, drop, Option, Some, None, slice_index, nat_lt, bytes_eq}
use Rattle.std.specs.Option.{option_map_or}
use Rattle.std.specs.List.{flat_map, AllByRecursion}
use Rattle.blog_event.specs.Event.{Event, event_size, event_text, IsEvent, event_at}

-- FE 62 69 6E
abbrev pub magic : List ℕ
magic = 0xFE ∷ 0x62 ∷ 0x69 ∷ 0x6E ∷ []

-- the magic number and the texts of the events
abbrev pub file_text : List Event → List ℕ
file_text es = magic ++ flat_map event_text es

-- an event, and the position of its header's first byte
pub record Placed : Type 0 where
  pub pos : ℕ
  pub event : Event

-- events that follow each other from a position on
abbrev pub placed_from : ℕ → List Event → List Placed
placed_from pos [] = []
placed_from pos (e ∷ es) = record { pos = pos; event = e } ∷ placed_from (pos + event_size e) es

-- the position after them
abbrev pub end_of : ℕ → List Event → ℕ
end_of pos [] = pos
end_of pos (e ∷ es) = end_of (pos + event_size e) es

-- a position lies below a stop, which may be absent
abbrev pub is_below : ℕ → Option ℕ → Bool
is_below pos None = true
is_below pos (Some stop) = nat_lt pos stop

-- ---- the events that are read

-- the first list begins with the second
abbrev pub BeginsWith : List ℕ → List ℕ → Type 0
BeginsWith bytes front = (rest : List ℕ) × (bytes ≡ front ++ rest)

-- an event stands at a position: its fields fit theirs, and the bytes from there on begin with its text
abbrev pub StandsAt : List ℕ → ℕ → Event → Type 0
StandsAt bytes at e = IsEvent e × BeginsWith (drop at bytes) (event_text e)

-- each starts below the stop
abbrev pub StartBelow : Option ℕ → List Placed → Type 0
StartBelow stop ps = AllByRecursion (λ p. is_below p.pos stop ≡ true) ps

-- events with which a file begins, each but the first starting below the stop
pub record IsFront (bytes : List ℕ) (stop : Option ℕ) (es : List Event) : Type 0 where
  pub events : AllByRecursion IsEvent es
  pub file : 0 < length es → BeginsWith bytes (file_text es)
  pub starts : StartBelow stop (drop 1 (placed_from 4 es))

-- the longest such list: the events that are read
pub record IsReadList (bytes : List ℕ) (stop : Option ℕ) (es : List Event) : Type 0 where
  pub front : IsFront bytes stop es
  pub longest : (others : List Event) → IsFront bytes stop others → length others ≤ length es

-- ---- the same, computed

-- the events from the front of the bytes, which stand at a position, as long as they start below the stop; at most so many
unfoldable pub events_from : ℕ → Option ℕ → ℕ → List ℕ → List Event
events_from zero stop pos bytes = []
events_from (suc n) stop pos bytes =
    if is_below pos stop then option_map_or (λ e. e ∷ events_from n stop (pos + event_size e) (drop (event_size e) bytes)) (event_at bytes) [] else []

-- the events that are read: the first, and each later one that starts below the stop
unfoldable pub read : List ℕ → Option ℕ → List Event
read bytes stop =
    if bytes_eq (take 4 bytes) magic
    then option_map_or (λ e. e ∷ events_from (length bytes) stop (4 + event_size e) (drop (event_size e) (drop 4 bytes))) (event_at (drop 4 bytes)) []
    else []

-- each is a byte
abbrev pub AreBytes : List ℕ → Type 0
AreBytes bytes = (i : ℕ) → slice_index bytes i < 256

-- what is computed is the one longest list
pub record ReadsLongest (bytes : List ℕ) (stop : Option ℕ) : Type 0 where
  pub is : IsReadList bytes stop (read bytes stop)
  pub only : (es : List Event) → IsReadList bytes stop es → es ≡ read bytes stop

-- what is computed at a position stands there, and no other event does
pub record ReadsEvent (bytes : List ℕ) (at : ℕ) : Type 0 where
  pub found : (e : Event) → event_at (drop at bytes) ≡ Some e → StandsAt bytes at e
  pub only : (e : Event) → StandsAt bytes at e → event_at (drop at bytes) ≡ Some e
