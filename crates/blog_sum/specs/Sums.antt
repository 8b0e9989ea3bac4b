-- The sums of a log (MySQL Internals manual, "Event checksum"): with the checksum algorithm 1 each event ends in the CRC-32
-- of its bytes before; and why a log has no plain log.
use Rattle.std.specs.Prelude.{ℕ, ◌-◌, ◌%◌, ◌==◌, Bool, true, false, if◌then◌else◌, List, [], ◌∷◌, ◌++◌, map, length, take, drop, nat_le, Option, Some, None, option_map}
use Rattle.std.specs.Option.{option_map_or}
use Rattle.byteorder.specs.Endian.{little_number}
use Rattle.blog_event.specs.declared.fault.Fault.{Fault}
use Rattle.blog_event.specs.declared.fault.Fault.TheVariants.{NotABinlog, CutEvent, BadFormat, OldServer, TooLong}
use Rattle.blog_event.specs.Event.{Event, event_size, event_text, event_at}
use Rattle.blog_event.specs.Fault.{first_failing}
use Rattle.blog_event.specs.File.{Placed, placed_from, end_of, read}
use Rattle.blog_event.specs.Format.{algorithm}
use Rattle.blog_event.specs.Opening.{front_fault}
use Rattle.blog_sum.specs.declared.fault.SumFault.{SumFault}
use Rattle.blog_sum.specs.declared.fault.SumFault.TheVariants.{Log, UnknownAlgorithm, WrongSum}
use Rattle.blog_sum.specs.Crc.{crc32_of}

-- the last four bytes are the CRC-32 of those before them, the lowest first
abbrev pub ends_in_its_sum : List ℕ → Bool
ends_in_its_sum bytes = little_number 4 (drop (length bytes - 4) bytes) == crc32_of (take (length bytes - 4) bytes)

-- the event with the header flag 0x0001 clear, which a server sets in a log that it has open
abbrev pub not_in_use : Event → Event
not_in_use e = record e { flags = e.flags - e.flags % 2 }

-- the events whose texts end in their sums: that of the format description is taken with that flag clear
abbrev pub summed : List Event → List Event
summed [] = []
summed (format ∷ later) = not_in_use format ∷ later

-- a check: the fault if the test fails
abbrev pub unless : Bool → SumFault → Option SumFault
unless true fault = None
unless false fault = Some fault

-- an event has room for a sum, and ends in it
abbrev pub sum_check : Placed → Option SumFault
sum_check p = first_failing (
    unless (nat_le 23 (event_size p.event)) (Log (CutEvent p.pos))
    ∷ unless (ends_in_its_sum (event_text p.event)) (WrongSum p.pos)
    ∷ [])

-- the checksum algorithm of a log's events, by its format description: 0 none, 1 CRC-32
abbrev pub algorithm_of : List ℕ → ℕ
algorithm_of bytes = option_map_or (λ format. algorithm format.body) (event_at (drop 4 bytes)) 0

-- a log whose events have sums
abbrev pub has_sums : List ℕ → Bool
has_sums bytes = algorithm_of bytes == 1

-- the first of these that fails: the log is one, with any checksum algorithm; the algorithm is known; of a log with sums,
-- each event in turn; the events reach to the log's end
unfoldable pub sum_fault : List ℕ → Option SumFault
sum_fault bytes =
    let events = read bytes None in first_failing (
    option_map Log (front_fault bytes)
    ∷ unless (nat_le (algorithm_of bytes) 1) (UnknownAlgorithm 4)
    ∷ ((if has_sums bytes then map sum_check (placed_from 4 (summed events)) else [])
    ++ unless (end_of 4 events == length bytes) (Log (CutEvent (end_of 4 events)))
    ∷ []))

-- the faults of a log that a check of sums can meet
abbrev pub is_of_a_front : Fault → Bool
is_of_a_front (TooLong pos) = true
is_of_a_front (NotABinlog pos) = true
is_of_a_front (CutEvent pos) = true
is_of_a_front (BadFormat pos) = true
is_of_a_front (OldServer pos) = true
is_of_a_front fault = false
