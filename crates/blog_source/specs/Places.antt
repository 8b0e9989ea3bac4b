-- Places: where in a server's log an event of the log that is handed out for it stands, and the way back. Both logs have the
-- same bytes before the format description ends, but for those that say that there are no sums. So positions up to there are
-- the same in both.
use Rattle.std.specs.Prelude.{ℕ, ◌+◌, nat_lt, nat_le, if◌then◌else◌, List, length, drop, find, None}
use Rattle.std.specs.Option.{option_map_or}
use Rattle.blog_event.specs.Event.{event_size, event_at}
use Rattle.blog_event.specs.File.{placed_from, events_from}

-- where the event behind the format description begins
abbrev pub first_of : List ℕ → ℕ
first_of log = option_map_or (λ format. 4 + event_size format) (event_at (drop 4 log)) 4

-- the place of a position in the log that is handed out, at which an event begins or the log ends: that of the event, or where
-- the reading of the server's log ended
abbrev pub place_of : List ℕ → ℕ → ℕ → ℕ
place_of log end at =
    if nat_lt at (first_of log) then at else option_map_or (λ e. e.log_pos) (event_at (drop at log)) end

-- the position of a place: where the first event begins that is at this place or behind it, and the end of the log if none does
abbrev pub position_of : List ℕ → ℕ → ℕ
position_of log place =
    if nat_lt place (first_of log) then place
    else option_map_or (λ p. p.pos) (find (λ p. nat_le place p.event.log_pos) (placed_from (first_of log) (events_from (length log) None (first_of log) (drop (first_of log) log)))) (length log)
