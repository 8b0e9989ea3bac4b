-- Going through the events of a log: what is found from a position on.
use Rattle.std.specs.Prelude.{ℕ, ◌==◌, if◌then◌else◌, List, [], ◌∷◌, ◌++◌, map, length, drop, None, Result, Ok, Err}
use Rattle.blog_event.specs.declared.event.Event as told
use Rattle.blog_event.specs.declared.fault.Fault.{Fault}
use Rattle.blog_event.specs.declared.fault.Fault.TheVariants.{CutEvent}
use Rattle.blog_event.specs.Event.{Event, event_of}
use Rattle.blog_event.specs.File.{Placed, placed_from, end_of, events_from}

-- an item of the program: an event with its start, or a fault
abbrev pub item_of : Result told.Event Fault → Result Placed Fault
item_of (Ok e) = Ok (record { pos = e.pos; event = event_of e })
item_of (Err fault) = Err fault

-- the items of events that follow each other from a position on, in a file that has its end there: each with its start, and then
-- a fault if they don't reach to the end, or lie past it
abbrev pub items_of : ℕ → ℕ → List Event → List (Result Placed Fault)
items_of at end es = map Ok (placed_from at es) ++ (if end_of at es == end then [] else Err (CutEvent (end_of at es)) ∷ [])

-- the items from a position of a file on
unfoldable pub items_from : List ℕ → ℕ → List (Result Placed Fault)
items_from bytes at = items_of at (length bytes) (events_from (length bytes) None at (drop at bytes))
