-- The plain log of a server's log: the same log without checksums (MySQL Internals manual, "Event checksum").
use Rattle.std.specs.Prelude.{ℕ, ◌+◌, Bool, List, [], ◌∷◌, take, None}
use Rattle.std.specs.List.{flat_map}
use Rattle.blog_event.specs.Event.{Event, event_size}
use Rattle.blog_event.specs.File.{file_text, read}
use Rattle.blog_sum.specs.Sums.{has_sums}
use Rattle.blog_sum.specs.Plain.{ended_from}
use Rattle.blog_source.specs.Becoming.{becomes_with}
use Rattle.blog_source.specs.Handed.{bare, handed_format}

-- what an event becomes; the Gtid event of a tagged one has 25 bytes, and no tag
abbrev pub plainly : Event → List Event
plainly e = becomes_with (take 25) e

-- the events of a plain log: the format description, of a log with sums with the checksum algorithm 0; then what each later
-- event becomes without its sum, the log_pos of each where it ends
abbrev pub plain_events : Bool → List Event → List Event
plain_events sums [] = []
plain_events sums (format ∷ later) = handed_format sums format ∷ ended_from (4 + event_size format) (flat_map (λ e. plainly (bare sums e)) later)

-- the plain log of a log
unfoldable pub plain_log : List ℕ → List ℕ
plain_log bytes = file_text (plain_events (has_sums bytes) (read bytes None))
