-- Lines that are held until they are sorted.
use Rattle.std.specs.Prelude.{◌≡◌, ◌⊎◌, ◌-◌, ◌≤◌, ◌<◌, ℕ, Bool, List, [], ◌∷◌, ◌++◌, length, map, take, drop, Option}
use Rattle.std.specs.List.{All}
use Rattle.std.specs.Io.KnownBytes.{Appends}
use Rattle.blog_choice.specs.Choice.{Choice}
use Rattle.blog_device.specs.Devices.{AppendsBeginning}
use Rattle.blog_list.specs.Lines.{LogList, Shown}
use Rattle.blog_list.specs.Sorted.{unit_fewer}
use Rattle.blog_list.specs.Texts.{IsLine, name_above}
use Rattle.blog_list.specs.code.Held.{HasBegun, HasListed, HasWritten, Sheet}
use Rattle.blog_list.specs.code.Told.{PutsLineIn}
use Rattle.blog_list.specs.declared.column.TimeColumn.{TimeColumn}
use Rattle.blog_list.specs.declared.listing.Form.{Form}
use Rattle.blog_list.specs.declared.listing.Sorting.{Sorting}
use Rattle.blog_list.specs.declared.listing.Sorting.TheVariants.{Place, Rows}
use Rattle.blog_list.specs.declared.ranking.RankedLine.{RankedLine}
use Rattle.blog_list.specs.declared.ranking.Ranking.{Ranking}

-- nothing is held
abbrev pub IsEmptyRanking : {A : Type 0} → Ranking A → Type 0
IsEmptyRanking ranking = (ranking.held.items ≡ []) × (ranking.lines.items ≡ [])

-- each line lies in what is held
abbrev pub AreInside : List ℕ → List RankedLine → Type 0
AreInside held lines = All (λ e. (e.start ≤ e.end) × (e.end ≤ length held)) lines

-- the bytes of one
abbrev pub line_bytes : List ℕ → RankedLine → List ℕ
line_bytes held e = take (e.end - e.start) (drop e.start held)

-- it is the line of a unit of a log
pub record IsLineOf (sheet : Sheet) (l : LogList) (held : List ℕ) (s : Shown) (e : RankedLine) : Type 0 where
  pub begins : e.start < length held
  pub order : e.start ≤ e.end
  pub inside : e.end ≤ length held
  pub rows : e.fewer ≡ unit_fewer l.choice s
  pub line : IsLine sheet.form sheet.zone sheet.gtids sheet.width l.name s (line_bytes held e)

-- these are the lines of some of its units, one of each
pub record AreRanked (sheet : Sheet) (l : LogList) (units : List Shown) (held : List ℕ) (lines : List RankedLine) : Type 0 where
  pub of : RankedLine → Shown
  pub units_are : map of lines ≡ units
  pub each : All (λ e. IsLineOf sheet l held (of e) e) lines

-- what is listed of a log is held or written; or the name alone is held, and its lines are held for sorting
abbrev pub HasHeldBy : {A : Type 0} → Sorting → Sheet → LogList → Option (List ℕ) → Option (List ℕ) → List ℕ → Ranking A → Type 0
HasHeldBy Place sheet l had has after ranking = HasListed sheet.form sheet.zone sheet.gtids sheet.width l had has sheet.before after
HasHeldBy Rows sheet l had has after ranking =
    (has ≡ had) × (after ≡ sheet.before ++ name_above sheet.form l.name) × AreRanked sheet l l.units ranking.held.items ranking.lines.items

abbrev pub HasHeld : {A : Type 0} → Sheet → LogList → Option (List ℕ) → Option (List ℕ) → List ℕ → Ranking A → Type 0
HasHeld sheet l had has after ranking = HasHeldBy l.sorting sheet l had has after ranking

-- the line of a unit was appended, and a part of what was held is written; or the line is held for sorting
abbrev pub HasKept : {A B : Type 0} → Sorting → Form → TimeColumn A → Bool → Choice → Option (List ℕ) → Shown → Option (List ℕ) → Option (List ℕ) → List ℕ → List ℕ → Ranking B → Ranking B → Type 0
HasKept Place form column gtids choice name s had has before after old new = (more : List ℕ) × PutsLineIn form column gtids name s before more × HasWritten had has more after
HasKept Rows form column gtids choice name s had has before after old new = (has ≡ had) × (after ≡ before) × PutsLineIn form column gtids name s old.held.items new.held.items
    × (new.lines.items ≡ old.lines.items ++ record { fewer = unit_fewer choice s; start = length old.held.items; end = length new.held.items } ∷ [])

-- nothing is written; or a beginning of what was held, with the line of a unit
abbrev pub HasBroken : {A : Type 0} → Sorting → Form → TimeColumn A → Bool → Option (List ℕ) → Shown → Option (List ℕ) → Option (List ℕ) → List ℕ → Type 0
HasBroken Place form column gtids name s had has before = (has ≡ had) ⊎ ((more : List ℕ) × PutsLineIn form column gtids name s before more × AppendsBeginning had has more)
HasBroken Rows form column gtids name s had has before = has ≡ had

-- the lines of a log were appended behind its name, sorted by rows; or a beginning of them
abbrev pub HasSorted : {A : Type 0} → Option (List ℕ) → Option (List ℕ) → List ℕ → List ℕ → Ranking A → Type 0
HasSorted had has before after ranking = (sheet : Sheet) (l : LogList) → l.sorting ≡ Rows → before ≡ sheet.before ++ name_above sheet.form l.name
    → AreRanked sheet l l.units ranking.held.items ranking.lines.items → HasListed sheet.form sheet.zone sheet.gtids sheet.width l had has sheet.before after

abbrev pub HasSortedBegun : {A : Type 0} → Option (List ℕ) → Option (List ℕ) → List ℕ → Ranking A → Type 0
HasSortedBegun had has before ranking = (sheet : Sheet) (l : LogList) → l.sorting ≡ Rows → before ≡ sheet.before ++ name_above sheet.form l.name
    → AreRanked sheet l l.units ranking.held.items ranking.lines.items → HasBegun sheet.form sheet.zone sheet.gtids sheet.width l had has sheet.before
