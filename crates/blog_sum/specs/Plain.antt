-- Events without their sums, and the format description that says so.
use Rattle.std.specs.Prelude.{ℕ, ◌+◌, ◌-◌, List, [], ◌∷◌, ◌++◌, length, take}
use Rattle.byteorder.specs.Endian.{little_bytes}
use Rattle.blog_event.specs.Event.{Event, event_size, event_text}
use Rattle.blog_sum.specs.Crc.{crc32_of}
use Rattle.blog_sum.specs.Sums.{not_in_use}

-- an event without its last four bytes
abbrev pub without_sum : Event → Event
without_sum e = record e { body = take (length e.body - 4) e.body }

-- a format description with the checksum algorithm 0, which is the fifth byte from the end, and with this sum
abbrev pub format_with : ℕ → Event → Event
format_with sum e = record e { body = take (length e.body - 5) e.body ++ (0 ∷ little_bytes 4 sum) }

-- a format description with that algorithm: it still ends in its own sum, taken with the flag for a log in use clear
abbrev pub plain_format : Event → Event
plain_format e = format_with (crc32_of (take (event_size e - 4) (event_text (not_in_use (format_with 0 e))))) e

-- events that follow each other from a position on, the log_pos of each where it ends
abbrev pub ended_from : ℕ → List Event → List Event
ended_from pos [] = []
ended_from pos (e ∷ es) = record e { log_pos = pos + event_size e } ∷ ended_from (pos + event_size e) es
