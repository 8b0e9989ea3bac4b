-- The maps that rows events of a statement use, by their numbers from 0.
use Rattle.std.specs.Prelude.{◌≡◌, ℕ, ◌<◌, Bool, true, false, List, filter, length, Option, Some, None, IfSome, bytes_eq, nat_eq, slice_get}
use Rattle.std.specs.List.{All, Contains, IsDistinct, filter_map, list_any}
use Rattle.std.specs.List.Sorted.{IsNonDecreasingBy}
use Rattle.byteorder.specs.Endian.{little_number}
use Rattle.blog_event.specs.Event.{Event, event_of, unplaced}
use Rattle.blog_event.specs.File.{AreBytes}
use Rattle.blog_event.specs.declared.event.Event as told
use Rattle.blog_row.specs.RowsEvent.{table_id}
use Rattle.blog_trans.specs.Groups.{RowsEvent}
use Rattle.blog_split.specs.declared.used_maps.MapId.{MapId}
use Rattle.blog_split.specs.Cuts.{is_used_by}

-- an event of the program as it is written
abbrev pub event_told : told.Event → Event
event_told e = unplaced (event_of e)

-- ---- maps by their table ids

-- six bytes
pub record IsId (id : List ℕ) : Type 0 where
  pub len : length id ≡ 6
  pub bytes : AreBytes id

-- the number of a table id, whose lowest byte comes first
unfoldable pub id_number : List ℕ → ℕ
id_number id = little_number 6 id

-- what is listed is one of the maps
pub record IsOfMap (maps : List Event) (e : MapId) : Type 0 where
  pub within : e.number < length maps
  pub is_id : (m : Event) → slice_get maps e.number ≡ Some m → IsId (table_id m.body)
  pub number_is : (m : Event) → slice_get maps e.number ≡ Some m → e.id ≡ id_number (table_id m.body)

-- the maps are listed, each by its number
pub record AreListed (maps : List Event) (ids : List MapId) : Type 0 where
  pub each : All (IsOfMap maps) ids
  pub every : (k : ℕ) → k < length maps → list_any (λ e. nat_eq e.number k) ids ≡ true

-- in the order of their table ids
pub record IsTable (maps : List Event) (ids : List MapId) : Type 0 where
  pub all : AreListed maps ids
  pub ordered : IsNonDecreasingBy (λ e. e.id) ids

-- what is listed under a table id
abbrev pub IsFound : List MapId → ℕ → Option ℕ → Type 0
IsFound ids id None = All (λ e. nat_eq id e.id ≡ false) ids
IsFound ids id (Some n) = Contains ids (record { id = id; number = n })

-- ---- the maps of rows events

-- the rows event goes by the map
abbrev pub goes_by : RowsEvent → Event → Bool
goes_by r m = bytes_eq (table_id m.body) r.content.id

-- it is this number
abbrev pub is_number : Option ℕ → ℕ → Bool
is_number None k = false
is_number (Some n) k = nat_eq n k

-- the number of the map that a rows event goes by, or none
pub record IsMapNumber (maps : List Event) (r : RowsEvent) (number : Option ℕ) : Type 0 where
  pub within : IfSome number (λ n. n < length maps)
  pub goes : (k : ℕ) (m : Event) → slice_get maps k ≡ Some m → goes_by r m ≡ is_number number k

-- numbers of the maps that some rows events use
pub record AreMarks (maps : List Event) (rows : List RowsEvent) (ns : List ℕ) : Type 0 where
  pub within : All (λ n. n < length maps) ns
  pub marked : (k : ℕ) (m : Event) → slice_get maps k ≡ Some m → is_used_by rows m ≡ list_any (λ n. nat_eq n k) ns

-- of each map whether its number is among these, each of which is there once
pub record AreFlags (ns : List ℕ) (flags : List Bool) : Type 0 where
  pub within : All (λ n. n < length flags) ns
  pub once : IsDistinct nat_eq ns
  pub each : (k : ℕ) (b : Bool) → slice_get flags k ≡ Some b → b ≡ list_any (λ n. nat_eq n k) ns

-- a number whose flag isn't set, if there is one
abbrev pub IsNew : List Bool → Option ℕ → Type 0
IsNew flags number = IfSome number (λ n. slice_get flags n ≡ Some false)

-- a number, or none where its flag is set
abbrev pub IsUnmarked : List Bool → Option ℕ → Option ℕ → Type 0
IsUnmarked flags number None = IfSome number (λ n. slice_get flags n ≡ Some true)
IsUnmarked flags number (Some n) = (number ≡ Some n) × (slice_get flags n ≡ Some false)

-- the maps of these numbers
abbrev pub numbered : List Event → List ℕ → List Event
numbered maps ns = filter_map (λ n. slice_get maps n) ns

-- the numbers of the maps that some rows events use, each once, in the order of the maps
pub record AreUsed (maps : List Event) (rows : List RowsEvent) (ns : List ℕ) : Type 0 where
  pub within : All (λ n. n < length maps) ns
  pub maps_are : numbered maps ns ≡ filter (is_used_by rows) maps
