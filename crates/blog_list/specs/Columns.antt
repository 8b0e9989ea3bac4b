-- The column of times in a list.
use Rattle.std.specs.Prelude.{◌≡◌, ◌++◌, ◌-◌, ℕ, List, Option, Some, None, codes, if◌then◌else◌, length, replicate}
use Rattle.std.specs.Str.{bytes_eq}
use Rattle.jiff.specs.Types.{TimeZone}
use Rattle.jiff.specs.Words.{IsInfoAt, abbreviation_text, plain_zone, zone_name}
use Rattle.jiff_tz.specs.declared.info.OffsetInfo.{OffsetInfo}
use Rattle.blog_list.specs.declared.column.TimeColumn.{TimeColumn}
use Rattle.blog_text.specs.Escapes.{escaped}
use Rattle.blog_list.specs.Times.{IsTimeText, instant}

-- the heading of this name, escaped
abbrev pub heading : List ℕ → List ℕ
heading name = codes "time (" ++ (escaped name ++ codes ")")

-- the heading of two names, or of one where they are the same
abbrev pub heading_of_two : List ℕ → List ℕ → List ℕ
heading_of_two first second =
    if bytes_eq first second then heading first
    else codes "time (" ++ (escaped first ++ (codes "/" ++ (escaped second ++ codes ")")))

-- the heading of a zone without a name: by its abbreviations at the beginning of January and of July 2100
abbrev pub IsSeasonsHeading : TimeZone → List ℕ → Type 0
IsSeasonsHeading zone text = (january july : OffsetInfo)
    × IsInfoAt zone (instant 4_102_444_800) january × IsInfoAt zone (instant 4_118_083_200) july
    × (text ≡ heading_of_two (abbreviation_text january.abbreviation) (abbreviation_text july.abbreviation))

abbrev pub IsHeadingOf : TimeZone → Option (List ℕ) → List ℕ → Type 0
IsHeadingOf zone (Some name) text = text ≡ heading name
IsHeadingOf zone None text = IsSeasonsHeading zone text

-- the heading of a zone: it has the zone's name, where that has one
abbrev pub IsHeading : TimeZone → List ℕ → Type 0
IsHeading zone text = IsHeadingOf zone (zone_name zone) text

-- the column of a zone
abbrev pub IsTimeColumn : {A : Type 0} → TimeZone → TimeColumn A → Type 0
IsTimeColumn zone column = (plain_zone column.zone ≡ zone) × IsHeading zone column.heading.items

-- a text was appended, and blanks up to this width
abbrev pub IsPadded : ℕ → List ℕ → List ℕ → List ℕ → Type 0
IsPadded width old text new = new ≡ old ++ text ++ replicate (width - length text) 32

-- what the clock shows was appended, and blanks up to the width of the heading
abbrev pub PutsTime : {A : Type 0} → TimeColumn A → ℕ → List ℕ → List ℕ → Type 0
PutsTime column seconds old new = (text : List ℕ) × IsTimeText (plain_zone column.zone) seconds text
    × IsPadded (length column.heading.items) old text new
