-- Positions at which events of a log end, and the events behind them.
use Rattle.std.specs.Prelude.{◌≡◌, ℕ, List, length, drop, None, Some}
use Rattle.blog_event.specs.File.{Placed, placed_from, end_of, events_from, read}

-- the events that follow each other from a position on
abbrev pub events_behind : List ℕ → ℕ → List Placed
events_behind bytes at = placed_from at (events_from (length bytes) None at (drop at bytes))

-- a position behind the first event at which an event ends: the events that start below it are read up to it
abbrev pub IsBoundary : List ℕ → ℕ → Type 0
IsBoundary bytes at = end_of 4 (read bytes (Some at)) ≡ at
