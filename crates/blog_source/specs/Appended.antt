-- Several logs of one server, each begun where the one before ended, as one: what is handed out for a further log stands behind what is handed
-- out for those before it, without its format description. A place in the further log is counted from the start of the first, as if the server
-- had written one file.
use Rattle.std.specs.Prelude.{◌≡◌, ℕ, ◌+◌, ◌-◌, ◌<◌, ◌^◌, ◌==◌, ◌&&◌, Bool, false, List, ◌++◌, length, map, take, drop, bytes_eq, nat_le, nat_lt, not, None}
use Rattle.std.specs.List.{AllByRecursion, flat_map, list_all, list_any}
use Rattle.std.specs.Option.{option_map_or}
use Rattle.blog_event.specs.Event.{Event, event_at, event_text}
use Rattle.blog_event.specs.File.{events_from}
use Rattle.blog_source.specs.Places.{first_of}

-- the events that are handed out for a log, behind its format description
abbrev pub behind_format : List ℕ → List Event
behind_format log = events_from (length log) None (first_of log) (drop (first_of log) log)

-- an event of a log that begins at a place
abbrev pub moved_on : ℕ → Event → Event
moved_on start e = record e { log_pos = start + e.log_pos }

-- what is handed out for logs that end at a place, and for a further one
unfoldable pub appended : List ℕ → ℕ → List ℕ → List ℕ
appended log end further = log ++ flat_map event_text (map (moved_on end) (behind_format further))

-- ---- of one server

-- the lengths that a format description has, behind that of a header, but for its last five bytes: the checksum algorithm and the sum, where it
-- has these (MySQL Internals manual, "Format_desc")
abbrev pub lengths_of : Event → List ℕ
lengths_of format = take (length format.body - 61) (drop 56 format.body)

-- Two format descriptions are of one server: its number, the version of the log and that of the server are the same, and so are the lengths.
abbrev pub are_alike : Event → Event → Bool
are_alike one other = one.server_id == other.server_id && (length one.body == length other.body
    && (bytes_eq (take 52 one.body) (take 52 other.body) && bytes_eq (lengths_of one) (lengths_of other)))

abbrev pub are_of_one_server : List ℕ → List ℕ → Bool
are_of_one_server log further =
    option_map_or (λ one. option_map_or (are_alike one) (event_at (drop 4 further)) false) (event_at (drop 4 log)) false

-- ---- in order

-- the time of a log's format description, in seconds since 1970: when the statement began during which the server began the log (MySQL Internals
-- manual, "Binary Log Event Header": timestamp)
abbrev pub format_time : List ℕ → ℕ
format_time log = option_map_or (λ format. format.timestamp) (event_at (drop 4 log)) 0

-- the number of the server that wrote it
abbrev pub format_server : List ℕ → ℕ
format_server log = option_map_or (λ format. format.server_id) (event_at (drop 4 log)) 0

-- an event is no list of the GTIDs before the log, which stands at its front
abbrev pub is_of_log : Event → Bool
is_of_log e = not (e.kind == 35)

-- an event of this server that isn't later than a time; in a replica's log those of its source have that one's times
abbrev pub is_own_by : ℕ → ℕ → Event → Bool
is_own_by server time e = e.server_id == server && nat_le e.timestamp time

-- A log is older than one with this time if its own time is earlier, it has events, and all are the server's own and none is later. Its last event
-- can have just this time: the server writes that during the same statement. A log without events can have the time of a statement that began
-- long before.
abbrev pub is_older : List ℕ → ℕ → Bool
is_older log time = nat_lt (format_time log) time && (list_any is_of_log (behind_format log) && list_all (is_own_by (format_server log) time) (behind_format log))

-- ---- not too long

-- each place of the further log, its end, and all that is handed out have 32 bits
pub record AreShort (log : List ℕ) (end : ℕ) (further : List ℕ) (further_end : ℕ) : Type 0 where
  pub places : AllByRecursion (λ e. end + e.log_pos < 2 ^ 32) (behind_format further)
  pub last : end + further_end < 2 ^ 32
  pub text : length (appended log end further) < 2 ^ 32
