-- What is shown of a unit of the program, and of the log of a source.
use Rattle.std.specs.Prelude.{◌≡◌, ℕ, Bool, List, ◌++◌, length, Option, option_map, map, string_bytes}
use Rattle.jiff.specs.Types.{TimeZone}
use Rattle.jiff.specs.Words.{plain_zone}
use Rattle.blog_sum.specs.declared.fault.SumFault.{SumFault}
use Rattle.blog_source.specs.Places.{place_of, position_of}
use Rattle.blog_source.specs.code.SourceView.{damaged_of, end_of, fault_of, log_of}
use Rattle.blog_source.specs.declared.source.Source.{Source}
use Rattle.blog_units.specs.Units.{facts_of, units}
use Rattle.blog_units.specs.declared.unit.Unit.{Unit}
use Rattle.blog_units.specs.code.UnitsView.{facts_told}
use Rattle.blog_list.specs.declared.column.TimeColumn.{TimeColumn}
use Rattle.blog_list.specs.declared.listing.Form.{Form}
use Rattle.blog_list.specs.declared.listing.Sorting.{Sorting}
use Rattle.blog_request.specs.declared.wanted.Wanted.{Wanted}
use Rattle.blog_list.specs.Lines.{LogList, Shown}
use Rattle.blog_list.specs.Lists.{list_end}
use Rattle.blog_list.specs.Shown.{last_whole, log_list, shown_with}
use Rattle.blog_list.specs.Texts.{IsJsonLine, IsLine, IsTextLine}
use Rattle.blog_request.specs.Wanted.{changes_told}

-- the place in a server's log of a position in the log of a source
abbrev pub source_place : {A : Type 0} → Source A → ℕ → ℕ
source_place source = place_of (log_of source) (end_of source)

-- what is shown of a unit
abbrev pub shown_told : {A : Type 0} → List ℕ → (ℕ → ℕ) → Unit A → Shown
shown_told log place unit = shown_with log place (facts_told unit.facts) (changes_told unit.groups)

-- its line was appended, as text
abbrev pub PutsLine : {A : Type 0} → TimeColumn A → Bool → Shown → List ℕ → List ℕ → Type 0
PutsLine column gtids s old new =
    (line : List ℕ) × IsTextLine (plain_zone column.zone) gtids (length column.heading.items) s line × (new ≡ old ++ line)

-- as JSON, with the name of its log
abbrev pub PutsJsonLine : TimeZone → Option (List ℕ) → Shown → List ℕ → List ℕ → Type 0
PutsJsonLine zone name s old new = (line : List ℕ) × IsJsonLine zone name s line × (new ≡ old ++ line)

-- in a form
abbrev pub PutsLineIn : {A : Type 0} → Form → TimeColumn A → Bool → Option (List ℕ) → Shown → List ℕ → List ℕ → Type 0
PutsLineIn form column gtids name s old new =
    (line : List ℕ) × IsLine form (plain_zone column.zone) gtids (length column.heading.items) name s line × (new ≡ old ++ line)

-- what is wanted by positions of the server's log, by those of the log of a source
abbrev pub inside : List ℕ → Wanted → Wanted
inside log w = record w { start = option_map (position_of log) w.start; stop = option_map (position_of log) w.stop }

-- what is listed of a source, under this name and sorted so
abbrev pub listed : {A : Type 0} → Option (List ℕ) → Sorting → Source A → Wanted → LogList
listed name sorting source w = log_list name sorting (inside (log_of source) w) (log_of source) (source_place source) (damaged_of source)

-- why that list ends early
abbrev pub end_listed : {A : Type 0} → Source A → Wanted → Option SumFault
end_listed source w =
    list_end (fault_of source) (end_of source) w.stop
    (last_whole (option_map (position_of (log_of source)) w.stop) (map facts_of (units (log_of source))))
