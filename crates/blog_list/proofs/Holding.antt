-- What is listed of a log, on its way: written and held in turn, or held until it is sorted.
use Rattle.std.proofs.Common.{◌≡◌, ℕ, ◌+◌, ◌<◌, Bool, true, false, List, [], ◌∷◌, ◌++◌, length, map, take, drop, Option, refl, sym, ap, ap₂, subst, ◌∙◌, append_assoc, append-nil, inl, inr}
use Rattle.std.specs.List.Sorted.{IsPermutation, IsSortedByKey, IsStableByKey}
use Rattle.std.specs.Ordering.{nat_cmp}
use Rattle.std.proofs.KnownBytes.{Appends-nil}
use Rattle.jiff.specs.Words.{plain_zone}
use Rattle.blog_choice.specs.Choice.{Choice}
use Rattle.blog_device.specs.Devices.{AppendsBeginning}
use Rattle.blog_units.specs.Units.{Facts}
use Rattle.blog_units.specs.declared.unit.Unit.{Unit}
use Rattle.blog_units.specs.code.UnitsView.{facts_told}
use Rattle.blog_request.specs.declared.wanted.Concern.{Concern}
use Rattle.blog_request.specs.declared.wanted.Wanted.{Wanted}
use Rattle.blog_request.specs.Wanted.{changes_told, concern_of, is_before, is_in_range, is_wanted}
use Rattle.blog_list.specs.declared.column.TimeColumn.{TimeColumn}
use Rattle.blog_list.specs.declared.listing.Form.{Form}
use Rattle.blog_list.specs.declared.listing.Sorting.{Sorting}
use Rattle.blog_list.specs.declared.listing.Sorting.TheVariants.{Place, Rows}
use Rattle.blog_list.specs.declared.ranking.RankedLine.{RankedLine}
use Rattle.blog_list.specs.declared.ranking.Ranking.{Ranking}
use Rattle.blog_list.specs.Lines.{LogList, Shown}
use Rattle.blog_list.specs.Shown.{changes_of}
use Rattle.blog_list.specs.Sorted.{IsArranged, unit_fewer}
use Rattle.blog_list.specs.Texts.{IsLogBegun, IsLogText, name_above}
use Rattle.blog_list.specs.code.Held.{HasBegun, HasListed, HasWritten, Sheet}
use Rattle.blog_list.specs.code.Ranked.{AreRanked, HasBroken, HasHeldBy, HasKept, IsEmptyRanking, IsLineOf, line_bytes}
use Rattle.blog_list.specs.code.Told.{PutsLineIn, shown_told}
use Rattle.blog_list.proofs.OnTheWay.{IsListing, listed_of, listing-broken, listing-end, listing-left, listing-more, listing-none, listing-outside, listing-unbegun, listing-unwanted, listing-wanted, listing-written, outside-next, unwanted-next, wanted-next}
use Rattle.blog_list.proofs.Ranked.{ranked-more, ranked-none}

-- ---- units of the log, in turn

-- the lines of the units so far are held
pub record IsRanking {A : Type 0} (sheet : Sheet) (l : LogList) (later : List Shown) (had has : Option (List ℕ)) (text : List ℕ) (ranking : Ranking A) : Type 0 where
  pub done : List Shown
  pub chosen : done ++ later ≡ l.units
  pub unwritten : has ≡ had
  pub name : text ≡ sheet.before ++ name_above sheet.form l.name
  pub ranked : AreRanked sheet l done ranking.held.items ranking.lines.items

abbrev pub IsHolding : {A : Type 0} → Sorting → Sheet → LogList → List Shown → Option (List ℕ) → Option (List ℕ) → List ℕ → Ranking A → Type 0
IsHolding Place sheet l later had has text ranking = IsListing sheet l later had has text
IsHolding Rows sheet l later had has text ranking = IsRanking sheet l later had has text ranking

pub holding-none : {A : Type 0} (sorting : Sorting) (sheet : Sheet) (l : LogList) (later : List Shown) (had : Option (List ℕ)) (text : List ℕ) (ranking : Ranking A)
    → l.sorting ≡ sorting → later ≡ l.units → text ≡ sheet.before ++ name_above sheet.form l.name → IsEmptyRanking ranking → IsHolding sorting sheet l later had had text ranking
holding-none Place sheet l later had text ranking sorted same is empty = listing-none sheet l later had text sorted same is
holding-none Rows sheet l later had text ranking sorted same is empty =
    record { done = []; chosen = same; unwritten = refl; name = is; ranked = ranked-none sheet l ranking.held.items ranking.lines.items empty.1 }

-- a unit isn't wanted
pub holding-unwanted : {A B : Type 0} (sorting : Sorting) (sheet : Sheet) (w : Wanted) (log : List ℕ) (place : ℕ → ℕ) (l : LogList) (left rest : List Facts)
    → (had has : Option (List ℕ)) (text : List ℕ) (ranking : Ranking B) (unit : Unit A) (concern : Concern) → IsHolding sorting sheet l (listed_of w log place left) had has text ranking
    → left ≡ facts_told unit.facts ∷ rest → changes_told unit.groups ≡ changes_of log (facts_told unit.facts) → is_before unit.facts.start w.stop ≡ true
    → concern ≡ concern_of w log (facts_told unit.facts) (changes_told unit.groups) → is_wanted concern ≡ false → IsHolding sorting sheet l (listed_of w log place rest) had has text ranking
holding-unwanted Place sheet w log place l left rest had has text ranking unit concern list first same earlier is unwanted =
    listing-unwanted sheet w log place l left rest had has text unit concern list first same earlier is unwanted
holding-unwanted Rows sheet w log place l left rest had has text ranking unit concern list first same earlier is unwanted = record {
  done = list.done;
  chosen = ap (λ (ss : List Shown). list.done ++ ss) (sym (unwanted-next w log place left rest unit concern first same earlier is unwanted)) ∙ list.chosen;
  unwritten = list.unwritten;
  name = list.name;
  ranked = list.ranked;
}

-- or it isn't in the range
pub holding-outside : {A : Type 0} (sorting : Sorting) (sheet : Sheet) (w : Wanted) (log : List ℕ) (place : ℕ → ℕ) (l : LogList) (left rest : List Facts)
    → (had has : Option (List ℕ)) (text : List ℕ) (ranking : Ranking A) (u : Facts) → IsHolding sorting sheet l (listed_of w log place left) had has text ranking
    → left ≡ u ∷ rest → is_before u.start w.stop ≡ true → is_in_range w u ≡ false → IsHolding sorting sheet l (listed_of w log place rest) had has text ranking
holding-outside Place sheet w log place l left rest had has text ranking u list first earlier outside = listing-outside sheet w log place l left rest had has text u list first earlier outside
holding-outside Rows sheet w log place l left rest had has text ranking u list first earlier outside = record {
  done = list.done;
  chosen = ap (λ (ss : List Shown). list.done ++ ss) (sym (outside-next w log place u left rest first earlier outside)) ∙ list.chosen;
  unwritten = list.unwritten;
  name = list.name;
  ranked = list.ranked;
}

-- the line of a wanted unit is kept
pub holding-wanted : {A B C : Type 0} (sorting : Sorting) (before : List ℕ) (form : Form) (gtids : Bool) (column : TimeColumn B) (w : Wanted) (log : List ℕ) (place : ℕ → ℕ) (l : LogList) (left rest : List Facts)
    → (had has now : Option (List ℕ)) (text after : List ℕ) (old new : Ranking C) (unit : Unit A) (concern : Concern)
    → IsHolding sorting (record { form = form; zone = plain_zone column.zone; gtids = gtids; width = length column.heading.items; before = before }) l (listed_of w log place left) had has text old
    → left ≡ facts_told unit.facts ∷ rest → changes_told unit.groups ≡ changes_of log (facts_told unit.facts) → is_before unit.facts.start w.stop ≡ true
    → concern ≡ concern_of w log (facts_told unit.facts) (changes_told unit.groups) → is_wanted concern ≡ true
    → (choice : Choice) → choice ≡ l.choice → HasKept sorting form column gtids choice l.name (shown_told log place unit) has now text after old new
    → IsHolding sorting (record { form = form; zone = plain_zone column.zone; gtids = gtids; width = length column.heading.items; before = before }) l (listed_of w log place rest) had now after new
holding-wanted Place before form gtids column w log place l left rest had has now text after old new unit concern list first same earlier is wanted choice of (more, puts, written) =
    listing-written _ l (listed_of w log place rest) had has now more after (listing-wanted before form gtids column w log place l left rest had has text more unit concern list first same earlier is wanted puts) written
holding-wanted Rows before form gtids column w log place l left rest had has now text after old new unit concern list first same earlier is wanted choice of (unwritten, untouched, (line, shows, grown), added) =
    let sheet : Sheet = record { form = form; zone = plain_zone column.zone; gtids = gtids; width = length column.heading.items; before = before } in
    let s : Shown = shown_told log place unit in
    let chosen = wanted-next w log place left rest unit concern first same earlier is wanted in
    record {
      done = list.done ++ s ∷ [];
      chosen = append_assoc list.done (s ∷ []) (listed_of w log place rest) ∙ ap (λ (ss : List Shown). list.done ++ ss) (sym chosen) ∙ list.chosen;
      unwritten = unwritten ∙ list.unwritten;
      name = untouched ∙ list.name;
      ranked = rw (grown, added) (ranked-more sheet l list.done old.held.items line old.lines.items s _ list.ranked refl (ap length grown) (ap (λ (x : Choice). unit_fewer x s) of) shows);
    }

-- ---- their end

-- nothing more is written
pub holding-left : {A : Type 0} (sorting : Sorting) (sheet : Sheet) (l : LogList) (later : List Shown) (had has : Option (List ℕ)) (text : List ℕ) (ranking : Ranking A)
    → IsHolding sorting sheet l later had has text ranking → HasBegun sheet.form sheet.zone sheet.gtids sheet.width l had has sheet.before
holding-left Place sheet l later had has text ranking list = listing-left sheet l later had has text list
holding-left Rows sheet l later had has text ranking list =
    subst (λ (now : Option (List ℕ)). HasBegun sheet.form sheet.zone sheet.gtids sheet.width l had now sheet.before) (sym list.unwritten) (listing-unbegun sheet.form sheet.zone sheet.gtids sheet.width l had sheet.before)

-- the line of a wanted unit isn't kept
pub holding-broken : {A B C : Type 0} (sorting : Sorting) (before : List ℕ) (form : Form) (gtids : Bool) (column : TimeColumn B) (w : Wanted) (log : List ℕ) (place : ℕ → ℕ) (l : LogList) (left rest : List Facts)
    → (had has now : Option (List ℕ)) (text : List ℕ) (ranking : Ranking C) (unit : Unit A) (concern : Concern)
    → IsHolding sorting (record { form = form; zone = plain_zone column.zone; gtids = gtids; width = length column.heading.items; before = before }) l (listed_of w log place left) had has text ranking
    → left ≡ facts_told unit.facts ∷ rest → changes_told unit.groups ≡ changes_of log (facts_told unit.facts) → is_before unit.facts.start w.stop ≡ true
    → concern ≡ concern_of w log (facts_told unit.facts) (changes_told unit.groups) → is_wanted concern ≡ true
    → HasBroken sorting form column gtids l.name (shown_told log place unit) has now text → HasBegun form (plain_zone column.zone) gtids (length column.heading.items) l had now before
holding-broken Place before form gtids column w log place l left rest had has now text ranking unit concern list first same earlier is wanted (inl unwritten) =
    subst (λ (bytes : Option (List ℕ)). HasBegun form (plain_zone column.zone) gtids (length column.heading.items) l had bytes before) (sym unwritten) (listing-left _ l (listed_of w log place left) had has text list)
holding-broken Place before form gtids column w log place l left rest had has now text ranking unit concern list first same earlier is wanted (inr (more, puts, begun)) =
    listing-broken _ l (listed_of w log place rest) had has now more (listing-wanted before form gtids column w log place l left rest had has text more unit concern list first same earlier is wanted puts) begun
holding-broken Rows before form gtids column w log place l left rest had has now text ranking unit concern list first same earlier is wanted unwritten =
    subst (λ (bytes : Option (List ℕ)). HasBegun form (plain_zone column.zone) gtids (length column.heading.items) l had bytes before) (sym (unwritten ∙ list.unwritten))
    (listing-unbegun form (plain_zone column.zone) gtids (length column.heading.items) l had before)

-- no unit is wanted that is left
pub holding-end : {A : Type 0} (sorting : Sorting) (sheet : Sheet) (l : LogList) (later : List Shown) (had has : Option (List ℕ)) (text : List ℕ) (ranking : Ranking A)
    → IsHolding sorting sheet l later had has text ranking → later ≡ [] → HasHeldBy sorting sheet l had has text ranking
holding-end Place sheet l later had has text ranking list none = listing-end sheet l later had has text list none
holding-end Rows sheet l later had has text ranking list none = (
  list.unwritten,
  list.name,
  subst (λ (ss : List Shown). AreRanked sheet l ss ranking.held.items ranking.lines.items)
      (sym (append-nil list.done) ∙ ap (λ (ss : List Shown). list.done ++ ss) (sym none) ∙ list.chosen) list.ranked,
)

-- ---- lines that are sorted

-- what is listed of units in the order of the lines, is listed of the log
sorted-text : (form : Form) (sheet : Sheet) (l : LogList) (units : List Shown) (text : List ℕ) → IsArranged l.sorting l.choice l.units units
    → IsLogText sheet.form sheet.zone sheet.gtids sheet.width (record l { units = units; sorting = Place }) text → IsLogText sheet.form sheet.zone sheet.gtids sheet.width l text
sorted-text form sheet l units text arranged (lined, same, lines) = (lined, subst (λ (ss : List Shown). IsArranged l.sorting l.choice l.units ss) (sym same) arranged, lines)

pub sorted-whole : (sheet : Sheet) (l : LogList) (units : List Shown) (had has : Option (List ℕ)) (after : List ℕ) → IsArranged l.sorting l.choice l.units units
    → HasListed sheet.form sheet.zone sheet.gtids sheet.width (record l { units = units; sorting = Place }) had has sheet.before after → HasListed sheet.form sheet.zone sheet.gtids sheet.width l had has sheet.before after
sorted-whole sheet l units had has after arranged (text, is, written) = (text, sorted-text sheet.form sheet l units text arranged is, written)

sorted-part : (sheet : Sheet) (l : LogList) (units : List Shown) (text : List ℕ) → IsArranged l.sorting l.choice l.units units
    → IsLogBegun sheet.form sheet.zone sheet.gtids sheet.width (record l { units = units; sorting = Place }) text → IsLogBegun sheet.form sheet.zone sheet.gtids sheet.width l text
sorted-part sheet l units text arranged (inl none) = inl none
sorted-part sheet l units text arranged (inr (part, inl same, is)) =
    inr (l, inl refl, sorted-text sheet.form sheet l units text arranged (subst (λ (x : LogList). IsLogText sheet.form sheet.zone sheet.gtids sheet.width x text) same is))
sorted-part sheet l units text arranged (inr (part, inr (lined, later, same, split, turn, of), is)) = inr (part, inr (units, later, arranged, split ∙ same, turn, of), is)

pub sorted-begun : (sheet : Sheet) (l : LogList) (units : List Shown) (had has : Option (List ℕ)) → IsArranged l.sorting l.choice l.units units
    → HasBegun sheet.form sheet.zone sheet.gtids sheet.width (record l { units = units; sorting = Place }) had has sheet.before → HasBegun sheet.form sheet.zone sheet.gtids sheet.width l had has sheet.before
sorted-begun sheet l units had has arranged (text, begun, written) = (text, sorted-part sheet l units text arranged begun, written)
