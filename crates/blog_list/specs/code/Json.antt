-- What a contract sees of parts of lines of JSON.
use Rattle.std.specs.Prelude.{◌≡◌, ℕ, List, ◌++◌}
use Rattle.jiff.specs.Types.{TimeZone}
use Rattle.blog_list.specs.Json.{json_time}
use Rattle.blog_list.specs.Times.{IsRfc3339Text}

-- a time was appended, as RFC 3339 writes it in the zone, and in seconds since 1970 in UTC
abbrev pub PutsJsonTime : TimeZone → ℕ → List ℕ → List ℕ → Type 0
PutsJsonTime zone seconds old new = (text : List ℕ) × IsRfc3339Text zone seconds text × (new ≡ old ++ json_time text seconds)
