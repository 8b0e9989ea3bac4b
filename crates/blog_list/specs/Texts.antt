-- A list, by its form. As text it has a line above all others, for each log a line with its name, if that is shown, and the lines
-- of its units, and lines with the totals. As JSON it has the objects of units, each with the name of its log, and of the totals.
use Rattle.std.specs.Prelude.{◌≡◌, ◌⊎◌, ℕ, Bool, ⊤, List, [], ◌∷◌, ◌++◌, length, Option}
use Rattle.std.specs.Io.KnownBytes.{Appends}
use Rattle.jiff.specs.Types.{TimeZone}
use Rattle.blog_device.specs.Devices.{AppendsBeginning}
use Rattle.blog_list.specs.declared.listing.Form.{Form}
use Rattle.blog_list.specs.declared.listing.Form.TheVariants.{Text, Json}
use Rattle.blog_list.specs.Columns.{IsHeading}
use Rattle.blog_list.specs.Json.{json_line, json_totals, totals_in}
use Rattle.blog_list.specs.Lines.{LogList, Shown, header, name_line, totals_lines, unit_line}
use Rattle.blog_list.specs.Sorted.{IsArranged}
use Rattle.blog_list.specs.declared.listing.Sorting.TheVariants.{Place}
use Rattle.blog_list.specs.Times.{IsRfc3339Text, IsTimeText}

-- ---- what each form has

-- the line of a unit as text, with the time that a clock in the zone shows
abbrev pub IsTextLine : TimeZone → Bool → ℕ → Shown → List ℕ → Type 0
IsTextLine zone gtids width s line = (time : List ℕ) × IsTimeText zone s.time time × (line ≡ unit_line gtids width time s)

-- the same as JSON, with the time as RFC 3339 writes it in the zone, and with the name of the log
abbrev pub IsJsonLine : TimeZone → Option (List ℕ) → Shown → List ℕ → Type 0
IsJsonLine zone name s line = (time : List ℕ) × IsRfc3339Text zone s.time time × (line ≡ json_line name time s)

-- the line of a unit of a log with this name
abbrev pub IsLine : Form → TimeZone → Bool → ℕ → Option (List ℕ) → Shown → List ℕ → Type 0
IsLine Text zone gtids width name s line = IsTextLine zone gtids width s line
IsLine Json zone gtids width name s line = IsJsonLine zone name s line

-- what is above the units of a log with this name
abbrev pub name_above : Form → Option (List ℕ) → List ℕ
name_above Text name = name_line name
name_above Json name = []

-- what is above all others
abbrev pub header_of : Form → Bool → List ℕ → List ℕ
header_of Text gtids heading = header gtids heading
header_of Json gtids heading = []

-- what is below them
abbrev pub totals_of : Form → List LogList → List ℕ
totals_of Text ls = totals_lines ls
totals_of Json ls = json_totals (totals_in ls)

-- ---- lists

-- the lines of units of a log with this name
abbrev pub AreLines : Form → TimeZone → Bool → ℕ → Option (List ℕ) → List Shown → List ℕ → Type 0
AreLines form zone gtids width name [] lines = lines ≡ []
AreLines form zone gtids width name (s ∷ ss) lines =
    (line rest : List ℕ) × IsLine form zone gtids width name s line × AreLines form zone gtids width name ss rest × (lines ≡ line ++ rest)

-- what is listed of a log: the lines of its units, which are sorted
abbrev pub IsLogText : Form → TimeZone → Bool → ℕ → LogList → List ℕ → Type 0
IsLogText form zone gtids width l text = (arranged : List Shown) × IsArranged l.sorting l.choice l.units arranged
    × ((lines : List ℕ) × AreLines form zone gtids width l.name arranged lines × (text ≡ name_above form l.name ++ lines))

abbrev pub AreLogTexts : Form → TimeZone → Bool → ℕ → List LogList → List ℕ → Type 0
AreLogTexts form zone gtids width [] text = text ≡ []
AreLogTexts form zone gtids width (l ∷ ls) text =
    (own rest : List ℕ) × IsLogText form zone gtids width l own × AreLogTexts form zone gtids width ls rest × (text ≡ own ++ rest)

-- what is above all others and what is listed of logs, without totals. As text the column of times is as wide as the heading of
-- the zone.
abbrev pub IsUpTo : Form → TimeZone → Bool → List LogList → List ℕ → Type 0
IsUpTo form zone gtids ls text = (heading lines : List ℕ)
    × IsHeading zone heading × AreLogTexts form zone gtids (length heading) ls lines × (text ≡ header_of form gtids heading ++ lines)

-- the whole list
abbrev pub IsListText : Form → TimeZone → Bool → List LogList → List ℕ → Type 0
IsListText form zone gtids ls text = (front : List ℕ) × IsUpTo form zone gtids ls front × (text ≡ front ++ totals_of form ls)

-- what is listed of a log, or the first units of that, under its name
abbrev pub IsPartOf : LogList → LogList → Type 0
IsPartOf part l = (part ≡ l) ⊎ ((arranged later : List Shown) × IsArranged l.sorting l.choice l.units arranged
    × (part.units ++ later ≡ arranged) × (part.sorting ≡ Place) × (part.name ≡ l.name))

-- the first logs, or none; of the last of them the first units
abbrev pub AreFirst : List LogList → List LogList → Type 0
AreFirst [] ls = ⊤
AreFirst (part ∷ parts) [] = ⊥
AreFirst (part ∷ []) (l ∷ ls) = IsPartOf part l
AreFirst (part ∷ next ∷ parts) (l ∷ ls) = (part ≡ l) × AreFirst (next ∷ parts) ls

-- a list up to the line of one of its units, or to its end; or nothing
abbrev pub IsBegun : Form → TimeZone → Bool → List LogList → List ℕ → Type 0
IsBegun form zone gtids ls text = (text ≡ []) ⊎ (IsListText form zone gtids ls text
    ⊎ ((first : List LogList) × AreFirst first ls × IsUpTo form zone gtids first text))

-- what is listed of a log, up to the line of one of its units; or nothing
abbrev pub IsLogBegun : Form → TimeZone → Bool → ℕ → LogList → List ℕ → Type 0
IsLogBegun form zone gtids width l text = (text ≡ []) ⊎ ((part : LogList) × IsPartOf part l × IsLogText form zone gtids width part text)

-- known bytes grow by the list
abbrev pub AppendsList : Form → TimeZone → Bool → List LogList → Option (List ℕ) → Option (List ℕ) → Type 0
AppendsList form zone gtids ls old new = (text : List ℕ) × IsListText form zone gtids ls text × Appends old new text

-- known bytes grow by a beginning of it
abbrev pub AppendsListBeginning : Form → TimeZone → Bool → List LogList → Option (List ℕ) → Option (List ℕ) → Type 0
AppendsListBeginning form zone gtids ls old new = (text : List ℕ) × IsBegun form zone gtids ls text × AppendsBeginning old new text

-- known bytes grow by what is listed of a log
abbrev pub AppendsLog : Form → TimeZone → Bool → ℕ → LogList → Option (List ℕ) → Option (List ℕ) → Type 0
AppendsLog form zone gtids width l old new = (text : List ℕ) × IsLogText form zone gtids width l text × Appends old new text

-- known bytes grow by a beginning of that
abbrev pub AppendsLogBeginning : Form → TimeZone → Bool → ℕ → LogList → Option (List ℕ) → Option (List ℕ) → Type 0
AppendsLogBeginning form zone gtids width l old new = (text : List ℕ) × IsLogBegun form zone gtids width l text × AppendsBeginning old new text
