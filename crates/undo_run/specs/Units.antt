-- Units of a part, by themselves: their changes are made once more, or undone, and those of the units among them are left.
use Rattle.std.specs.Prelude.{◌≡◌, ◌⊎◌, ℕ, ◌<◌, ◌==◌, Bool, true, false, ◌&&◌, ◌||◌, nat_lt, if◌then◌else◌, List, [], ◌∷◌, ◌++◌, length, map, take, drop, Option, Some, None, option_map, slice_get, is_some, not}
use Rattle.std.specs.List.{AllByRecursion, list_all, list_any}
use Rattle.std.specs.Option.{option_map_or}
use Rattle.blog_event.specs.declared.fault.Fault.{Fault}
use Rattle.blog_event.specs.Fault.{name_of}
use Rattle.blog_gathered.specs.Gathered.{Range, gathered_text}
use Rattle.blog_later.specs.Among.{Step, Selected, Other, chosen_of, from_first, others_of}
use Rattle.blog_later.specs.Later.{later_units, leaves_alone, unit_changes}
use Rattle.blog_choice.specs.Choice.{Choice, Name, is_nil}
use Rattle.blog_event.specs.Event.{event_at}
use Rattle.blog_row.specs.Kinds.{is_begin_kind, kind_of}
use Rattle.blog_request.specs.Ids.{Ids, has_id}
use Rattle.blog_request.specs.Wanted.{is_before, is_in_range}
use Rattle.blog_request.specs.code.IdsView.{ids_value}
use Rattle.blog_request.specs.declared.wanted.Wanted.{Wanted}
use Rattle.blog_source.specs.Places.{position_of}
use Rattle.blog_sum.specs.declared.fault.SumFault.{SumFault}
use Rattle.blog_trans.specs.Acceptance.{IsAccepted, IsRefusal, fault}
use Rattle.blog_trans.specs.Changes.{changes, counts_of}
use Rattle.blog_trans.specs.Groups.{groups}
use Rattle.blog_trans.specs.Selection.{Selection, all}
use Rattle.blog_units.specs.Units.{Facts, Id, range_of_unit}
use Rattle.undo_run.specs.After.{Later}
use Rattle.undo_run.specs.Parts.{IsPlaced, RefusesStart, begins_at, damage_before, has_rows, has_start, is_at_end, selection_in}
use Rattle.undo_run.specs.Several.{Names}
use Rattle.undo_run.specs.Taken.{Taken}
use Rattle.undo_run.specs.declared.fault.PartFault.{PartFault}
use Rattle.undo_run.specs.declared.fault.PartFault.TheVariants.{Sums, NoUnitAt, NoUnitWithGtid, Log, NothingSelected, TooLong}
use Rattle.undo_run.specs.declared.request.UnitRequest.{UnitRequest}

-- ---- which units

-- Units are made of the events from the start on. Those are asked for that begin before the stop, and are of the wanted times, threads and
-- ids; and, if places are asked for, start at one of these, or have their `BEGIN` there. Positions are those in what is handed out of a log.
abbrev pub wanted_in : Wanted → Selection → List ℕ → Wanted
wanted_in w part handed = record w { start = None; stop = option_map (position_of handed) part.stop }

-- a `BEGIN` stands at a position
abbrev pub is_begin_at : List ℕ → ℕ → Bool
is_begin_at handed pos = option_map_or (λ e. is_begin_kind (kind_of e)) (event_at (drop pos handed)) false

-- a unit starts there, or has its `BEGIN` there
abbrev pub is_at : List ℕ → Facts → ℕ → Bool
is_at handed u pos = pos == u.start || (nat_lt u.start pos && (nat_lt pos u.stop && is_begin_at handed pos))

abbrev pub is_of_places : List ℕ → List ℕ → Facts → Bool
is_of_places at handed u = is_nil at || list_any (is_at handed u) at

abbrev pub is_meant : Wanted → List ℕ → List ℕ → Facts → Bool
is_meant w at handed u = is_in_range w u && is_of_places at handed u

-- the table of a name, if there is one, in any schema
abbrev pub tables_of_name : Option (List ℕ) → List Name
tables_of_name None = []
tables_of_name (Some name) = record { schema = None; table = name } ∷ []

-- the tables of a selection, as a choice
abbrev pub tables_in : Selection → Choice
tables_in sel = record { database = sel.database; tables = tables_of_name sel.table; excluded = [] }

-- a whole unit that is refused, and leaves chosen tables alone: a statement that names none of them
abbrev pub is_left_out : Selection → List ℕ → Facts → Bool
is_left_out sel handed u = is_some (fault handed (range_of_unit sel u)) && (u.whole && leaves_alone (tables_in sel) handed u)

-- Those are chosen that are asked for, but for statements that name none of the chosen tables.
abbrev pub is_chosen : Wanted → List ℕ → Selection → List ℕ → Facts → Bool
is_chosen w at sel handed u = is_meant w at handed u && not (is_left_out sel handed u)

abbrev pub is_asked : UnitRequest → Selection → List ℕ → Facts → Bool
is_asked r part handed = is_chosen (wanted_in r.wanted part handed) (map (position_of handed) r.at.now) (selection_in part handed) handed

-- the units of a part, and those of them that pass a test: the chosen ones
abbrev pub units_of_part : Selection → List ℕ → List Facts
units_of_part sel handed = later_units handed sel.start

abbrev pub chosen_units : (Facts → Bool) → Selection → List ℕ → List Facts
chosen_units p sel handed = chosen_of p (units_of_part sel handed)

-- a chosen unit, up to the stop, and the selection's tables
abbrev pub chosen_range : Selection → List ℕ → Facts → Range
chosen_range sel handed u = record { bytes = handed; sel = range_of_unit sel u }

-- a log in which the groups of chosen units are gathered
abbrev pub kept_log : Selection → List ℕ → List Facts → List ℕ
kept_log sel handed [] = []
kept_log sel handed (u ∷ us) = gathered_text (chosen_range sel handed u) (map (chosen_range sel handed) (u ∷ us))

-- ---- their places and ids

-- a unit in the range starts at a position, or has its `BEGIN` there
abbrev pub has_unit_in : Selection → List ℕ → ℕ → Bool
has_unit_in sel handed pos = list_any (λ u. is_before u.start sel.stop && is_at handed u pos) (units_of_part sel handed)

-- the same of a place of the server's log, at which an event begins
abbrev pub has_unit_at : Selection → List ℕ → ℕ → ℕ → Bool
has_unit_at sel handed end place = begins_at handed end place && has_unit_in sel handed (position_of handed place)

-- each of several asked places has a unit
abbrev pub have_units : List ℕ → Selection → List ℕ → ℕ → Bool
have_units asked sel handed end = list_all (has_unit_at sel handed end) asked

-- this is the first that hasn't
abbrev pub IsWithout : List ℕ → Selection → List ℕ → ℕ → ℕ → Type 0
IsWithout asked sel handed end place = (n : ℕ) × (have_units (take n asked) sel handed end ≡ true) × (slice_get asked n ≡ Some place) × (has_unit_at sel handed end place ≡ false)

-- an id, if there is one, is among some
abbrev pub has_one_of : Ids → Option Id → Bool
has_one_of ids id = option_map_or (λ id. has_id ids id) id false

-- a unit in the range has one of some ids
abbrev pub has_unit_with : Ids → Selection → List ℕ → Bool
has_unit_with ids sel handed = list_any (λ u. is_before u.start sel.stop && has_one_of ids u.id) (units_of_part sel handed)

-- each of several asked ids is one of a unit
abbrev pub are_found : List Ids → Selection → List ℕ → Bool
are_found asked sel handed = list_all (λ ids. has_unit_with ids sel handed) asked

-- this is the first that isn't
abbrev pub IsMissing : List Ids → Selection → List ℕ → ℕ → Type 0
IsMissing asked sel handed n = (are_found (take n asked) sel handed ≡ true) × ((ids : Ids) × (slice_get asked n ≡ Some ids) × (has_unit_with ids sel handed ≡ false))

abbrev pub ids_asked : Wanted → List Ids
ids_asked w = map ids_value w.gtids.now

-- ---- what is taken of them

-- the changes of a unit in turn: those of a chosen one are selected, and those of any other aren't
abbrev pub step_of : (Facts → Bool) → Selection → List ℕ → Facts → Step
step_of p sel handed u = if p u then Selected (changes handed (range_of_unit sel u)) else Other (unit_changes handed u)

-- the units from the first chosen one on
abbrev pub units_on : (Facts → Bool) → Selection → List ℕ → List Facts
units_on p sel handed = from_first p (units_of_part sel handed)

-- those of them that aren't chosen
abbrev pub rest_among : Names → (Facts → Bool) → Selection → List ℕ → ℕ → Option SumFault → Later
rest_among names p sel handed end fault = record { names = names; handed = handed; units = others_of p (units_on p sel handed); end = end; fault = fault }

abbrev pub chosen_taken : Names → (Facts → Bool) → Selection → List ℕ → ℕ → Option SumFault → Taken
chosen_taken names p sel handed end fault = record {
  log = kept_log sel handed (chosen_units p sel handed);
  sel = all;
  steps = map (step_of p sel handed) (units_on p sel handed);
  rest = rest_among names p sel handed end fault;
}

-- ---- their faults

abbrev pub IsUnitAccepted : Selection → List ℕ → Facts → Type 0
IsUnitAccepted sel handed u = IsAccepted handed (range_of_unit sel u)

abbrev pub AreAccepted : Selection → List ℕ → List Facts → Type 0
AreAccepted sel handed us = AllByRecursion (IsUnitAccepted sel handed) us

-- The chosen units can be written: the log was read up to the stop, each of them is accepted, no two of them have one table with two layouts,
-- and they have rows.
pub record AreSound (p : Facts → Bool) (sel : Selection) (handed : List ℕ) (damage : Option SumFault) : Type 0 where
  pub whole : damage ≡ None
  pub accepted : AreAccepted sel handed (chosen_units p sel handed)
  pub agree : IsAccepted (kept_log sel handed (chosen_units p sel handed)) all
  pub rows : has_rows (counts_of (groups (kept_log sel handed (chosen_units p sel handed)) all)) ≡ true

-- this is the first chosen unit that is refused, or for which memory was refused, and its fault
pub record IsFirstRefused (p : Facts → Bool) (sel : Selection) (handed : List ℕ) (inner : Fault) : Type 0 where
  pub before : List Facts
  pub unit : Facts
  pub rest : List Facts
  pub chosen : chosen_units p sel handed ≡ before ++ unit ∷ rest
  pub accepted : AreAccepted sel handed before
  pub refused : IsRefusal (fault handed (range_of_unit sel unit)) inner

-- the log is damaged before the stop, and chosen units before that place have no fault of their own
abbrev pub UnitsEndEarly : (Facts → Bool) → Selection → List ℕ → Option SumFault → SumFault → Type 0
UnitsEndEarly p sel handed damage f = (damage ≡ Some f)
    × (AreAccepted sel handed (chosen_units p sel handed) ⊎ ((inner : Fault) × IsFirstRefused p sel handed inner × (is_at_end handed inner ≡ true)))

-- a chosen unit is refused;
abbrev pub UnitIsRefused : (Facts → Bool) → Selection → List ℕ → ℕ → Option SumFault → Fault → Type 0
UnitIsRefused p sel handed end damage f = (inner : Fault) × IsFirstRefused p sel handed inner × ((damage ≡ None) ⊎ (is_at_end handed inner ≡ false)) × IsPlaced handed end inner f

-- two of them have one table with two layouts, or memory was refused: this is told where a unit starts
abbrev pub UnitsClash : (Facts → Bool) → Selection → List ℕ → ℕ → Option SumFault → Fault → Type 0
UnitsClash p sel handed end damage f = (damage ≡ None) × AreAccepted sel handed (chosen_units p sel handed)
    × ((inner : Fault) × IsRefusal (fault (kept_log sel handed (chosen_units p sel handed)) all) inner × (name_of f ≡ name_of inner))

-- no rows are changed;
abbrev pub UnitsHaveNoRows : (Facts → Bool) → Selection → List ℕ → Option SumFault → Type 0
UnitsHaveNoRows p sel handed damage = (damage ≡ None) × AreAccepted sel handed (chosen_units p sel handed)
    × ((chosen_units p sel handed ≡ []) ⊎ (has_rows (counts_of (groups (kept_log sel handed (chosen_units p sel handed)) all)) ≡ false))

-- the log in which their groups are gathered would be too long
abbrev pub UnitsAreTooLong : (Facts → Bool) → Selection → List ℕ → Type 0
UnitsAreTooLong p sel handed = (before rest : List Facts) × (chosen_units p sel handed ≡ before ++ rest) × AreAccepted sel handed before × (4294967295 < length (kept_log sel handed before))

-- why chosen units aren't written
abbrev pub RefusesChosen : {A : Type 0} → (Facts → Bool) → Selection → List ℕ → ℕ → Option SumFault → PartFault A → Type 0
RefusesChosen p sel handed end damage (Sums f) = UnitsEndEarly p sel handed damage f
RefusesChosen p sel handed end damage (Log f) = UnitIsRefused p sel handed end damage f ⊎ UnitsClash p sel handed end damage f
RefusesChosen p sel handed end damage NothingSelected = UnitsHaveNoRows p sel handed damage
RefusesChosen p sel handed end damage TooLong = UnitsAreTooLong p sel handed
RefusesChosen p sel handed end damage cause = ⊥

-- ---- of a part

abbrev pub units_taken : UnitRequest → Names → Selection → List ℕ → ℕ → Option SumFault → Taken
units_taken r names part handed end fault = chosen_taken names (is_asked r part handed) (selection_in part handed) handed end fault

-- Where what came later is looked at, damage of the log is told with that. Else the log has to be read up to the part's stop.
abbrev pub damage_among : Bool → Selection → ℕ → Option SumFault → Option SumFault
damage_among looks part end fault = if looks then None else damage_before true part end fault

-- each place and each id that is asked for is one of a unit
abbrev pub AreThere : UnitRequest → Selection → List ℕ → ℕ → Type 0
AreThere r sel handed end = (have_units r.at.now sel handed end ≡ true) × (are_found (ids_asked r.wanted) sel handed ≡ true)

abbrev pub AreSoundUnits : UnitRequest → Selection → List ℕ → ℕ → Option SumFault → Type 0
AreSoundUnits r part handed end damage = (has_start part handed end ≡ true) × AreThere r (selection_in part handed) handed end × AreSound (is_asked r part handed) (selection_in part handed) handed damage

-- no unit has one of the asked places or ids; or the log is damaged, so that this isn't known
abbrev pub LacksUnit : {A : Type 0} → UnitRequest → Selection → List ℕ → ℕ → Option SumFault → PartFault A → Type 0
LacksUnit r sel handed end damage (NoUnitAt place) = (damage ≡ None) × IsWithout r.at.now sel handed end place
LacksUnit r sel handed end damage (NoUnitWithGtid n) = (damage ≡ None) × (have_units r.at.now sel handed end ≡ true) × IsMissing (ids_asked r.wanted) sel handed n
LacksUnit r sel handed end damage (Sums f) = (damage ≡ Some f) × ((have_units r.at.now sel handed end ≡ false) ⊎ (are_found (ids_asked r.wanted) sel handed ≡ false))
LacksUnit r sel handed end damage cause = ⊥

abbrev pub RefusesUnits : {A : Type 0} → UnitRequest → Selection → List ℕ → ℕ → Option SumFault → Option SumFault → PartFault A → Type 0
RefusesUnits r part handed end fault damage cause = RefusesStart part handed end fault cause ⊎ ((has_start part handed end ≡ true)
    × (LacksUnit r (selection_in part handed) handed end (damage_before true part end fault) cause
    ⊎ RefusesChosen (is_asked r part handed) (selection_in part handed) handed end damage cause))
