-- The log without checksums that is handed out for a server's log. Each of its events is at the place of an event of that log,
-- which its log_pos says.
use Rattle.std.specs.Prelude.{ℕ, Bool, true, false, List, [], ◌∷◌, map, length}
use Rattle.std.specs.List.{flat_map}
use Rattle.blog_event.specs.Event.{Event}
use Rattle.blog_event.specs.File.{Placed, file_text, read}
use Rattle.blog_sum.specs.Sums.{has_sums}
use Rattle.blog_sum.specs.Plain.{without_sum, plain_format}
use Rattle.blog_source.specs.declared.reading.Reading.{Reading}
use Rattle.blog_source.specs.Becoming.{becomes_with}
use Rattle.blog_source.specs.Found.{found_behind}

-- what an event becomes; the Gtid event of a tagged one has the tag behind its 25 bytes
abbrev pub becomes : Event → List Event
becomes e = becomes_with (λ body. body) e

-- an event without its sum, where it has one
abbrev pub bare : Bool → Event → Event
bare true e = without_sum e
bare false e = e

-- the events that are handed out for an event: the log_pos of each is where that begins
abbrev pub handed : Bool → Placed → List Event
handed sums p = map {A = Event} (λ e. record e { log_pos = p.pos }) (becomes (bare sums p.event))

-- the format description: of a log with sums, with the checksum algorithm 0
abbrev pub handed_format : Bool → Event → Event
handed_format true format = plain_format format
handed_format false format = format

-- the events that are handed out for those that are read
abbrev pub handed_events : Reading → Bool → ℕ → List Event → List Event
handed_events how sums len [] = []
handed_events how sums len (format ∷ later) = handed_format sums format ∷ flat_map (handed sums) (found_behind how sums len (format ∷ later)).kept

-- the log that is handed out
unfoldable pub handed_log : Reading → List ℕ → List ℕ
handed_log how bytes = file_text (handed_events how (has_sums bytes) (length bytes) (read bytes how.stop))
