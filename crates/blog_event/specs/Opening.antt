-- Opening a log: the checks of a file as far as its first event.
use Rattle.std.specs.Prelude.{◌≡◌, ℕ, ◌<◌, ◌^◌, List, [], ◌∷◌, length, take, drop, nat_lt, bytes_eq, is_some, Option, Some, None}
use Rattle.std.specs.Option.{option_map_or}
use Rattle.blog_event.specs.declared.fault.Fault.{Fault}
use Rattle.blog_event.specs.declared.fault.Fault.TheVariants.{NotABinlog, CutEvent, TooLong}
use Rattle.blog_event.specs.Event.{Event, event_at}
use Rattle.blog_event.specs.Fault.{Cause, needs, first_failing, fault_at}
use Rattle.blog_event.specs.File.{magic}
use Rattle.blog_event.specs.Format.{description_fault, format_fault}

-- why bytes are no log, None where they are one: too many, another mark, no event behind the mark, or what a check says
-- of that event
abbrev pub opening_by : (Event → Option Cause) → List ℕ → Option Fault
opening_by check bytes =
    let first = event_at (drop 4 bytes) in first_failing (
    fault_at 0 (needs (nat_lt (length bytes) (2 ^ 32)) TooLong)
    ∷ fault_at 0 (needs (bytes_eq (take 4 bytes) magic) NotABinlog)
    ∷ fault_at 4 (needs (is_some first) CutEvent)
    ∷ fault_at 4 (option_map_or check first None)
    ∷ [])

-- no check of that event
abbrev pub unchecked : Event → Option Cause
unchecked e = None

-- why bytes are no log of this profile: the check of that event's format
unfoldable pub opening_fault : List ℕ → Option Fault
opening_fault bytes = opening_by format_fault bytes

-- why bytes are none with any checksum algorithm
unfoldable pub front_fault : List ℕ → Option Fault
front_fault bytes = opening_by description_fault bytes

-- bytes that are a log of this profile, by the event behind the mark
pub record IsLog (bytes : List ℕ) (first : Event) : Type 0 where
  pub short : length bytes < 2 ^ 32
  pub mark : take 4 bytes ≡ magic
  pub stands : event_at (drop 4 bytes) ≡ Some first
  pub accepted : format_fault first ≡ None

-- opening finds no fault of bytes that are such a log, and of no others
pub record OpensLogs (bytes : List ℕ) : Type 0 where
  pub opened : opening_fault bytes ≡ None → (first : Event) × IsLog bytes first
  pub opens : (first : Event) → IsLog bytes first → opening_fault bytes ≡ None
