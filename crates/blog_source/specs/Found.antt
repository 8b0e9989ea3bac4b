-- Which events of a server's log are read, and why its reading ends (MySQL Internals manual, "Event checksum").
use Rattle.std.specs.Prelude.{ℕ, ◌+◌, ◌/◌, ◌%◌, ◌==◌, ◌&&◌, ◌||◌, not, is_none, nat_le, Bool, true, false, if◌then◌else◌, List, [], ◌∷◌, length, drop, Option, Some, None, option_map}
use Rattle.blog_event.specs.declared.fault.Fault.TheVariants.{CutEvent}
use Rattle.blog_event.specs.Event.{Event, event_size, event_at}
use Rattle.blog_event.specs.Fault.{first_failing}
use Rattle.blog_event.specs.File.{Placed, placed_from, is_below, read}
use Rattle.blog_event.specs.Opening.{front_fault}
use Rattle.blog_sum.specs.declared.fault.SumFault.{SumFault}
use Rattle.blog_sum.specs.declared.fault.SumFault.TheVariants.{Encrypted, Log, UnknownAlgorithm, WrongSum}
use Rattle.blog_sum.specs.Sums.{unless, sum_check, not_in_use, algorithm_of, has_sums}
use Rattle.blog_source.specs.declared.reading.Reading.{Reading}

-- ---- the front of a log, without which nothing of it is read

-- the sum of the format description, which is taken with the flag for a log in use clear
abbrev pub format_check : Option Event → Option SumFault
format_check None = None
format_check (Some format) = sum_check (record { pos = 4; event = not_in_use format })

-- the first of these that fails: the bytes are a log, with any checksum algorithm; the algorithm is known; the format
-- description of a log with sums ends in its own
unfoldable pub source_refusal : List ℕ → Option SumFault
source_refusal bytes = first_failing (
    option_map Log (front_fault bytes)
    ∷ unless (nat_le (algorithm_of bytes) 1) (UnknownAlgorithm 4)
    ∷ (if has_sums bytes then format_check (event_at (drop 4 bytes)) else None)
    ∷ [])

-- ---- the events behind it

-- the check of its sum: in a log with sums it has room for one, and ends in its own
abbrev pub sums_check : Bool → Placed → Option SumFault
sums_check true p = sum_check p
sums_check false p = None

-- its header flag 0x0080 says that a reader may ignore it
abbrev pub may_be_ignored : ℕ → Bool
may_be_ignored flags = (flags / 0x80) % 2 == 1

-- what is behind it is encrypted (MariaDB Knowledge Base, "START_ENCRYPTION_EVENT", type 164); in a copy that the server
-- decrypted the event has the flag 0x0080, by which it may be ignored
abbrev pub begins_encryption : Event → Bool
begins_encryption e = (e.kind == 164) && not (may_be_ignored e.flags)

-- the check of an event: the first of these that fails
abbrev pub check_of : Bool → Placed → Option SumFault
check_of sums p = first_failing (sums_check sums p ∷ unless (not (begins_encryption p.event)) (Encrypted p.pos) ∷ [])

-- the sum is wrong
abbrev pub is_wrong_sum : Option SumFault → Bool
is_wrong_sum (Some (WrongSum pos)) = true
is_wrong_sum check = false

-- the first of these events ends in its sum
abbrev pub begins_right : List Placed → Bool
begins_right [] = false
begins_right (p ∷ ps) = is_none (sum_check p)

-- the events end where the log does, or at the stop or behind it
abbrev pub end_fault : ℕ → Option ℕ → ℕ → Option SumFault
end_fault len stop at = unless ((at == len) || not (is_below at stop)) (Log (CutEvent at))

-- a damaged event that is passed over: its type is 255, which no event has, and its flags are the type that it had
abbrev pub as_damaged : Placed → Placed
as_damaged p = record p { event = record p.event { kind = 255; flags = p.event.kind } }

-- What is found of a log: the events that are kept, each at its place, those that are passed over as damaged ones; the first
-- fault; where the reading ended; and how many events were passed over.
pub record Found : Type 0 where
  pub kept : List Placed
  pub fault : Option SumFault
  pub end : ℕ
  pub damaged : ℕ

-- with one more event in front, by its check, and by whether it is passed over if that fails: it is kept, or passed over, or
-- the reading ends there
abbrev pub found_with : Option SumFault → Bool → Placed → Found → Found
found_with None passed p later = record later { kept = p ∷ later.kept }
found_with (Some fault) true p later = record later { kept = as_damaged p ∷ later.kept; damaged = 1 + later.damaged }
found_with (Some fault) false p later = record { kept = []; fault = Some fault; end = p.pos; damaged = 0 }

-- what is found of the events from a position on, in a log of so many bytes, which has sums or has not. An event is passed
-- over where that is asked for if its sum is wrong and the next event ends in its own.
abbrev pub found : Reading → Bool → ℕ → ℕ → List Placed → Found
found how sums len at [] = record { kept = []; fault = end_fault len how.stop at; end = at; damaged = 0 }
found how sums len at (p ∷ ps) =
    found_with (check_of sums p) (how.skip_damaged && (is_wrong_sum (check_of sums p) && begins_right ps)) p
    (found how sums len (p.pos + event_size p.event) ps)

-- the same of the events that are read, of which the first is the format description
abbrev pub found_behind : Reading → Bool → ℕ → List Event → Found
found_behind how sums len [] = record { kept = []; fault = None; end = 4; damaged = 0 }
found_behind how sums len (format ∷ later) = found how sums len (4 + event_size format) (placed_from (4 + event_size format) later)

-- what is found of a log, of which the front is read
unfoldable pub found_of : Reading → List ℕ → Found
found_of how bytes = found_behind how (has_sums bytes) (length bytes) (read bytes how.stop)
