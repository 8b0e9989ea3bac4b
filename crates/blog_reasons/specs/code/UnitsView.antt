-- What a contract sees of the units that were seen.
use Rattle.std.specs.Prelude.{◌≡◌, ℕ, ◌&&◌, ◌||◌, Bool, List, [], Option, Some, None, min, max}
use Rattle.std.specs.List.{list_any}
use Rattle.blog_units.specs.Units.{Facts}
use Rattle.blog_request.specs.Wanted.{is_before, is_from}
use Rattle.blog_request.specs.declared.wanted.Wanted.{Wanted}
use Rattle.blog_reasons.specs.declared.units.Range.{Range}
use Rattle.blog_reasons.specs.declared.units.SeenUnits.{SeenUnits}
use Rattle.blog_reasons.specs.declared.units.Times.{Times}
use Rattle.blog_reasons.specs.Reasons.{AreEnds, Looked, is_in_times}

-- a log with a range of the program
abbrev pub range_of : List ℕ → Range → Looked
range_of log range = record { log = log; start = range.start; stop = range.stop }

-- times with one more
abbrev pub with_time : Option Times → ℕ → Times
with_time None time = record { first = time; last = time }
with_time (Some times) time = record { first = min times.first time; last = max times.last time }

-- what was seen, with a unit of this time
abbrev pub seen_with : Wanted → SeenUnits → ℕ → SeenUnits
seen_with w seen time = record { times = Some (with_time seen.times time); has_wanted = seen.has_wanted || (is_from time w.from_time && is_before time w.to_time) }

-- the least and the greatest time of units, if there are any
abbrev pub AreTimes : List Facts → Option Times → Type 0
AreTimes us None = us ≡ []
AreTimes us (Some times) = AreEnds us times.first times.last

-- what was seen of these units: their times, and whether one is of the wanted times
pub record AreSeenUnits (w : Wanted) (us : List Facts) (seen : SeenUnits) : Type 0 where
  pub times : AreTimes us seen.times
  pub wanted : seen.has_wanted ≡ list_any (is_in_times w) us
