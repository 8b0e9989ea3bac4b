-- Times of events in a time zone: what a clock there shows, and which time a text means.
use Rattle.std.specs.Prelude.{◌≡◌, ◌≢◌, ◌<◌, ◌^◌, ◌++◌, ℕ, ℤ, pos, neg_ℤ, ◌+ℤ◌, ◌+◌, ◌*◌, ◌/◌, min, unsigned_abs, int_lt, if◌then◌else◌, false, List, Option, Some, None, Result, Ok, Err}
use Rattle.jiff.specs.Types.{DateTime, Offset, TimeZone, AmbiguousOffset, Gap, Fold, Unambiguous}
use Rattle.jiff.specs.Words.{civil_nanos, nanos_of_seconds, offset_at, ambiguous_at, datetime_text, offset_text, iso_datetime_text, parse_datetime, date_parts, time_parts, earlier_offset, later_offset, instant_of}
use Rattle.blog_list.specs.declared.times.Side.{Side}
use Rattle.blog_list.specs.declared.times.Side.TheVariants.{Start, Stop}
use Rattle.blog_list.specs.declared.times.TimeFault.{TimeFault}
use Rattle.blog_list.specs.declared.times.TimeFault.TheVariants.{NotATime, Skipped}

-- seconds since 1970 in UTC, in nanoseconds
abbrev pub instant : ℕ → ℤ
instant seconds = nanos_of_seconds (pos seconds)

-- `YYYY-MM-DD hh:mm:ss`
abbrev pub time_text : DateTime → List ℕ
time_text time = datetime_text false 32 (Some 0) time

-- a clock that is so many seconds ahead of UTC shows this date and time
abbrev pub Shows : ℤ → ℕ → DateTime → Type 0
Shows offset seconds time = civil_nanos time ≡ instant seconds +ℤ nanos_of_seconds offset

-- the text of what a clock in the zone shows
abbrev pub IsTimeText : TimeZone → ℕ → List ℕ → Type 0
IsTimeText zone seconds text =
    (time : DateTime) × Shows (offset_at zone (instant seconds)) seconds time × (text ≡ time_text time)

-- seconds rounded to the nearest whole minutes, of which there are at most 25:59
abbrev pub rounded : ℕ → ℕ
rounded n = min ((n + 30) / 60 * 60) 93_540

-- an offset in seconds, rounded so
abbrev pub whole_minutes : ℤ → ℤ
whole_minutes seconds =
    if int_lt seconds (pos 0) then neg_ℤ (pos (rounded (unsigned_abs seconds))) else pos (rounded (unsigned_abs seconds))

-- the text of RFC 3339, sections 5.6 and 5.8: what a clock shows at the nearest offset in whole minutes, and that offset
abbrev pub IsRfc3339Text : TimeZone → ℕ → List ℕ → Type 0
IsRfc3339Text zone seconds text = (time : DateTime) × (offset : Offset)
    × (offset.seconds ≡ whole_minutes (offset_at zone (instant seconds)))
    × Shows offset.seconds seconds time × (text ≡ iso_datetime_text time ++ offset_text offset)

-- the text of a date and time, which is read as that
abbrev pub IsCivil : List ℕ → DateTime → Type 0
IsCivil text time = (parse_datetime text ≡ Ok (date_parts time.date, time_parts time.time)) × (text ≡ time_text time)

-- the date and time of which this is the text, where there is one
abbrev pub IsReadCivil : List ℕ → Option DateTime → Type 0
IsReadCivil text (Some time) = IsCivil text time
IsReadCivil text None = (time : DateTime) → ¬ (IsCivil text time)

-- of two times that a clock shows alike, the start of a range is the earlier one, and its stop the later one
abbrev pub offset_for : Side → AmbiguousOffset → Offset
offset_for Start offsets = earlier_offset offsets
offset_for Stop offsets = later_offset offsets

-- the clock never shows the time
abbrev pub IsGap : AmbiguousOffset → Type 0
IsGap (Unambiguous offset) = ⊥
IsGap (Gap before after) = Unit {0}
IsGap (Fold before after) = ⊥

-- the seconds of an instant in nanoseconds, where an event can have that time
abbrev pub IsWhole : ℤ → Option ℕ → Type 0
IsWhole nanos (Some seconds) = nanos ≡ instant seconds
IsWhole nanos None = (seconds : ℕ) → seconds < 2 ^ 32 → nanos ≢ instant seconds

-- what a date and time means, and a text that is none
abbrev pub Means : TimeZone → Side → Option DateTime → Result ℕ TimeFault → Type 0
Means zone side None result = result ≡ Err NotATime
Means zone side (Some time) (Ok seconds) = (¬ (IsGap (ambiguous_at zone time)))
    × IsWhole (instant_of time (offset_for side (ambiguous_at zone time))) (Some seconds)
Means zone side (Some time) (Err NotATime) = (¬ (IsGap (ambiguous_at zone time)))
    × IsWhole (instant_of time (offset_for side (ambiguous_at zone time))) None
Means zone side (Some time) (Err Skipped) = IsGap (ambiguous_at zone time)

-- which time a text means as the side of a range
abbrev pub IsRead : TimeZone → Side → List ℕ → Result ℕ TimeFault → Type 0
IsRead zone side text result = (time : Option DateTime) × IsReadCivil text time × Means zone side time result
