-- A part of a server's log: its changes are made once more, or undone. Places are positions in that log.
use Rattle.std.specs.Prelude.{◌≡◌, ◌⊎◌, ℕ, ◌<◌, ◌≤◌, ◌==◌, ◌&&◌, ◌||◌, nat_le, nat_lt, Bool, true, false, if◌then◌else◌, List, [], ◌∷◌, length, Option, Some, None, option_map, is_some}
use Rattle.std.specs.List.{list_any}
use Rattle.std.specs.Option.{option_map_or}
use Rattle.blog_event.specs.declared.fault.Fault.{Fault}
use Rattle.blog_event.specs.Fault.{name_of, position_of as fault_position}
use Rattle.blog_later.specs.Among.{Selected}
use Rattle.blog_later.specs.Later.{later_units}
use Rattle.blog_source.specs.Places.{first_of, place_of, position_of}
use Rattle.blog_source.specs.declared.reading.Reading.{Reading}
use Rattle.blog_sum.specs.declared.fault.SumFault.{SumFault}
use Rattle.blog_text.specs.Tables.{rows_in}
use Rattle.blog_trans.specs.Acceptance.{IsAccepted, IsRefusal, fault}
use Rattle.blog_trans.specs.Changes.{TableCount, changes, counts_of}
use Rattle.blog_trans.specs.Groups.{groups}
use Rattle.blog_trans.specs.Selection.{Selection}
use Rattle.undo_run.specs.After.{Later, later_step}
use Rattle.undo_run.specs.Several.{Names}
use Rattle.undo_run.specs.Taken.{Taken}
use Rattle.undo_run.specs.declared.fault.PartFault.{PartFault}
use Rattle.undo_run.specs.declared.fault.PartFault.TheVariants.{Sums, NoEventAt, Log, NothingSelected}
use Rattle.undo_run.specs.declared.request.UnitRequest.{UnitRequest}

-- ---- what a part is

-- A part is a selection by places. It is all of that; or of its units those that are asked for. The log is read up to the part's stop, or to the
-- log's end where what came later is looked at, or units are asked for.
abbrev pub reading_of : Bool → Option UnitRequest → Selection → Reading
reading_of looks asked part = record { stop = if looks || is_some asked then None else part.stop; skip_damaged = false }

-- the reading ended at the stop or after it
abbrev pub is_behind : Selection → ℕ → Bool
is_behind part end = option_map_or (λ stop. nat_le stop end) part.stop false

-- why the reading ended, if it ended before the stop
abbrev pub damage_before : Bool → Selection → ℕ → Option SumFault → Option SumFault
damage_before looks part end fault = if looks && is_behind part end then None else fault

-- the selection in what is handed out: from the first event at the start, or behind it, to the first one at the stop, or behind it
abbrev pub selection_in : Selection → List ℕ → Selection
selection_in part handed = record part { start = position_of handed part.start; stop = option_map (position_of handed) part.stop }

-- ---- where it starts

-- nothing lies between its start and its stop
abbrev pub is_empty : Selection → Bool
is_empty part = option_map_or (λ stop. nat_le stop part.start) part.stop false

-- An event begins at a place, or all that was read ends there. A place up to 4 is that of the first event.
abbrev pub begins_at : List ℕ → ℕ → ℕ → Bool
begins_at handed end place = nat_le place 4 || (nat_le (first_of handed) place && place_of handed end (position_of handed place) == place)

abbrev pub has_start : Selection → List ℕ → ℕ → Bool
has_start part handed end = is_empty part || begins_at handed end part.start

-- ---- which rows it changes

-- some are inserted, updated or deleted
abbrev pub has_rows : List TableCount → Bool
has_rows counts = list_any (λ c. nat_lt 0 (rows_in c)) counts

abbrev pub counts_in_part : Selection → List ℕ → List TableCount
counts_in_part part handed = counts_of (groups handed (selection_in part handed))

-- ---- its faults

-- a fault isn't one of an event, but stands where what is handed out ends
abbrev pub is_at_end : List ℕ → Fault → Bool
is_at_end handed f = option_map_or (λ pos. nat_le (length handed) pos) (fault_position f) false

-- a fault of what is handed out, which was read up to an end, at its place
abbrev pub IsPlaced : List ℕ → ℕ → Fault → Fault → Type 0
IsPlaced handed end inner cause = (name_of cause ≡ name_of inner) × (fault_position cause ≡ option_map (place_of handed end) (fault_position inner))

-- the changes of the part are refused for a fault, or memory was refused
abbrev pub IsRefused : Selection → List ℕ → Fault → Type 0
IsRefused part handed inner = IsRefusal (fault handed (selection_in part handed)) inner

-- no event of the part has a fault
abbrev pub NoEventFails : Selection → List ℕ → Type 0
NoEventFails part handed = IsAccepted handed (selection_in part handed) ⊎ ((inner : Fault) × IsRefused part handed inner × (is_at_end handed inner ≡ true))

-- Why a part of what is handed out isn't written. Reading ended there, with this fault if with one, which stands behind those of
-- events. The start is none: it lies inside an event, or behind the log's end;
abbrev pub LacksStart : Selection → List ℕ → ℕ → Option SumFault → ℕ → Type 0
LacksStart part handed end damage pos = (pos ≡ part.start) × (has_start part handed end ≡ false) × ((damage ≡ None) ⊎ (part.start < end))

-- the log ends too early, or is damaged, in front of the start or in the part;
abbrev pub EndsEarly : Selection → List ℕ → ℕ → Option SumFault → SumFault → Type 0
EndsEarly part handed end damage f = (damage ≡ Some f)
    × (((has_start part handed end ≡ false) × (end ≤ part.start)) ⊎ ((has_start part handed end ≡ true) × NoEventFails part handed))

-- an event has a fault, or the part ends inside a transaction; or memory was refused;
abbrev pub HasFault : Selection → List ℕ → ℕ → Option SumFault → Fault → Type 0
HasFault part handed end damage f = (has_start part handed end ≡ true)
    × ((inner : Fault) × IsRefused part handed inner × ((damage ≡ None) ⊎ (is_at_end handed inner ≡ false)) × IsPlaced handed end inner f)

-- no rows are changed.
abbrev pub HasNoRows : Selection → List ℕ → ℕ → Option SumFault → Type 0
HasNoRows part handed end damage = (damage ≡ None) × (has_start part handed end ≡ true) × IsAccepted handed (selection_in part handed)
    × (has_rows (counts_in_part part handed) ≡ false)

-- A part of what is handed out can be written: it has a start, the reading ended without a fault, it is accepted, and it has rows.
pub record IsSound (part : Selection) (handed : List ℕ) (end : ℕ) (damage : Option SumFault) : Type 0 where
  pub start : has_start part handed end ≡ true
  pub whole : damage ≡ None
  pub accepted : IsAccepted handed (selection_in part handed)
  pub rows : has_rows (counts_in_part part handed) ≡ true

-- ---- what came later

-- where the stop is in what is handed out, or its end
abbrev pub stop_in : Selection → List ℕ → ℕ
stop_in part handed = option_map_or (position_of handed) part.stop (length handed)

-- the log itself, from the stop on
abbrev pub rest_of : Names → Selection → List ℕ → ℕ → Option SumFault → Later
rest_of names part handed end fault = record { names = names; handed = handed; units = later_units handed (stop_in part handed); end = end; fault = fault }

-- ---- what is taken

-- all of a part, and what comes after its stop
abbrev pub part_taken : Names → Selection → List ℕ → ℕ → Option SumFault → Taken
part_taken names part handed end fault = record {
  log = handed;
  sel = selection_in part handed;
  steps = Selected (changes handed (selection_in part handed)) ∷ later_step (rest_of names part handed end fault) ∷ [];
  rest = rest_of names part handed end fault;
}

-- why a part has no start: what was read may end before it
abbrev pub RefusesStart : {A : Type 0} → Selection → List ℕ → ℕ → Option SumFault → PartFault A → Type 0
RefusesStart part handed end damage (NoEventAt pos) = LacksStart part handed end damage pos
RefusesStart part handed end damage (Sums f) = (damage ≡ Some f) × (has_start part handed end ≡ false) × (end ≤ part.start)
RefusesStart part handed end damage cause = ⊥

-- why a part isn't selected
abbrev pub Refuses : {A : Type 0} → Selection → List ℕ → ℕ → Option SumFault → PartFault A → Type 0
Refuses part handed end damage (NoEventAt pos) = LacksStart part handed end damage pos
Refuses part handed end damage (Sums f) = EndsEarly part handed end damage f
Refuses part handed end damage (Log f) = HasFault part handed end damage f
Refuses part handed end damage NothingSelected = HasNoRows part handed end damage
Refuses part handed end damage cause = ⊥
