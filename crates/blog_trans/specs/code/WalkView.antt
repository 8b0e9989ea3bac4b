-- What a walk over a log tells.
use Rattle.std.specs.Prelude.{◌≡◌, ℕ, ◌+◌, true, false, not, ◌&&◌, nat_lt, List, [], ◌∷◌, drop, reverse, Option, Some, None, Result, MatchResult}
use Rattle.blog_event.specs.declared.fault.Fault.{Fault}
use Rattle.blog_event.specs.declared.fault.Fault.TheVariants.{CutEvent, NoEventAt, Unended}
use Rattle.blog_event.specs.Fault.{needs, first_failing, fault_at}
use Rattle.blog_event.specs.Event.{Event, event_at, event_size}
use Rattle.blog_event.specs.File.{Placed, placed_from, end_of, is_below, read}
use Rattle.blog_trans.specs.declared.builder.IndexBuilder.{IndexBuilder}
use Rattle.blog_trans.specs.declared.place.Place.{Place}
use Rattle.blog_trans.specs.Selection.{Selection}
use Rattle.blog_trans.specs.Places.{is_outside}
use Rattle.blog_trans.specs.Acceptance.{range, is_in_range, is_start_inside, first_read_fault, is_cut, IsRefusal}
use Rattle.blog_trans.specs.code.BuilderView.{HasTaken}

-- an event is read and nothing is asked of it: it isn't in the range, and the start isn't inside of it
abbrev pub IsPassedBy : Selection → Placed → Type 0
IsPassedBy sel p = (is_in_range sel p ≡ false) × (is_start_inside sel p ≡ false)

-- events lead from a position to another: each stands where the one before ends, and is read, and nothing is asked of it
abbrev pub Lead : List ℕ → Selection → ℕ → ℕ → List Event → Type 0
Lead bytes sel at to [] = at ≡ to
Lead bytes sel at to (e ∷ es) =
    (is_below at sel.stop ≡ true) × (event_at (drop at bytes) ≡ Some e) × IsPassedBy sel (record { pos = at; event = e }) × Lead bytes sel (at + event_size e) to es

-- a position to which the first event and those behind it lead, where nothing is asked of them
pub record IsReached (bytes : List ℕ) (sel : Selection) (at : ℕ) : Type 0 where
  pub first : Event
  pub later : List Event
  pub stands : event_at (drop 4 bytes) ≡ Some first
  pub outside : is_start_inside sel (record { pos = 4; event = first }) ≡ false
  pub lead : Lead bytes sel (4 + event_size first) at later

-- an event is read: it passed and is walked, or the log is refused at it. `read` has it and the events before it.
abbrev pub IsRead : {A : Type 0} → Option Fault → Selection → List Placed → Result Unit Fault → IndexBuilder A → Type 0
IsRead wanted sel read result builder = MatchResult result (λ done. (wanted ≡ None) × HasTaken sel (range sel read) builder) (IsRefusal wanted)

-- the fault of the events that are read, or of a rest behind them
abbrev pub walk_fault : List ℕ → Selection → Option Fault
walk_fault bytes sel =
    let events = read bytes sel.stop in
    first_failing (first_read_fault sel [] (placed_from 4 events) ∷ fault_at (end_of 4 events) (needs (not (is_cut bytes sel events)) CutEvent) ∷ [])

-- all events are read, which ends at this position, or the log is refused at the first that fails
abbrev pub IsThrough : {A : Type 0} → List ℕ → Selection → Result ℕ Fault → IndexBuilder A → Type 0
IsThrough bytes sel result builder =
    let events = read bytes sel.stop in
    MatchResult result (λ at. (walk_fault bytes sel ≡ None) × (at ≡ end_of 4 events) × HasTaken sel (reverse (range sel (placed_from 4 events))) builder) (IsRefusal (walk_fault bytes sel))

-- the fault of a range that ends at a position and in a place, of a log of so many bytes
abbrev pub end_fault : ℕ → Selection → Place → ℕ → Option Fault
end_fault end sel last at = first_failing (
    fault_at sel.start (needs (not (is_below sel.start sel.stop && nat_lt end sel.start)) NoEventAt) ∷ fault_at at (needs (is_outside last) Unended) ∷ [])
