-- What logs have after changes, and whether it touches these.
use Rattle.std.specs.Prelude.{◌≡◌, ◌⊎◌, ◌<◌, ◌==◌, ℕ, Bool, true, false, if◌then◌else◌, List, [], ◌∷◌, map, filter, drop, length, Option, Some, None, is_some}
use Rattle.std.specs.List.{flat_map, last_or, list_any}
use Rattle.std.specs.Option.{option_map_or}
use Rattle.blog_event.specs.File.{Placed, placed_from, read}
use Rattle.blog_choice.specs.Choice.{Choice}
use Rattle.blog_later.specs.Among.{Step, Other, marked_in, touches_among}
use Rattle.blog_later.specs.Later.{changes_in, is_accepted, is_apart, may_concern}
use Rattle.blog_later.specs.Prints.{Left, takes_left}
use Rattle.blog_later.specs.code.Counted.{at_most, starts}
use Rattle.blog_source.specs.Places.{place_of}
use Rattle.blog_sum.specs.declared.fault.SumFault.{SumFault}
use Rattle.blog_trans.specs.Changes.{Change}
use Rattle.blog_undo.specs.Laws.{AsIfNever}
use Rattle.blog_undo.specs.Mixed.{all_changes, is_untouched}
use Rattle.blog_flash.specs.States.{State, apply_all}
use Rattle.blog_units.specs.Units.{Facts}
use Rattle.undo_run.specs.Several.{Names, located}

-- A log after changes, or several that are read as one: their names; what is handed out of them; the units there that come after the changes and aren't selected; where in the
-- server's log the reading ended, and why, if the log is damaged there.
pub record Later : Type 0 where
  pub names : Names
  pub handed : List ℕ
  pub units : List Facts
  pub end : ℕ
  pub fault : Option SumFault

-- a place in the server's log of a name
pub record Place : Type 0 where
  pub name : List ℕ
  pub at : ℕ

-- ---- units that can be undone by themselves, and their changes

abbrev pub accepted_units : List Later → List Facts
accepted_units ls = flat_map (λ l. filter (is_accepted l.handed) l.units) ls

abbrev pub later_changes : List Later → List Change
later_changes ls = flat_map (λ l. changes_in l.handed l.units) ls

-- those of one log, as a step among others
abbrev pub later_step : Later → Step
later_step l = Other (changes_in l.handed l.units)

-- how many of these take a row by these fingerprints
abbrev pub touches : Left → List Later → ℕ
touches left ls = length (filter (takes_left left) (later_changes ls))

-- ---- the others: those that may concern chosen tables, and where those begin that don't

abbrev pub unknown_units : Choice → List Later → List Facts
unknown_units choice ls = flat_map (λ l. filter (may_concern choice l.handed) l.units) ls

-- a place by the name of the log in which it is
abbrev pub place_in : Names → ℕ → Place
place_in names place = record { name = (located names place).name; at = (located names place).at }

-- where a position in what is handed out of a log is in the server's log
abbrev pub place_at : Names → List ℕ → ℕ → ℕ → Place
place_at names handed end at = place_in names (place_of handed end at)

abbrev pub places_apart : Choice → List Later → List Place
places_apart choice ls = flat_map (λ l. map (place_at l.names l.handed l.end) (starts (filter (is_apart choice l.handed) l.units))) ls

-- ---- the logs' ends

abbrev pub is_damaged : List Later → Bool
is_damaged ls = list_any (λ l. is_some l.fault) ls

-- where the reading of the last log ended
abbrev pub last_end : Option Place → List Later → Option Place
last_end end [] = end
last_end end (l ∷ ls) = last_end (Some (place_in l.names l.end)) ls

-- the log in which a log goes on: the name in the Rotate event at its end, behind 8 bytes (MySQL Internals manual, "Rotate_event"); no bytes
-- where there is none
abbrev pub rotated_to : Placed → List ℕ
rotated_to p = if p.event.kind == 4 then drop 8 p.event.body else []

abbrev pub next_log : List ℕ → List ℕ
next_log handed = option_map_or rotated_to (last_or None (drop 1 (placed_from 4 (read handed None)))) []

-- that of the last log
abbrev pub last_next : List ℕ → List Later → List ℕ
last_next next [] = next
last_next next (l ∷ ls) = last_next (next_log l.handed) ls

-- ---- whether it touches them

-- What logs change in steps, of which some are selected, and chosen tables. Nothing touches what is selected: no change that isn't takes a
-- row that a selected one before it left; no unit that isn't selected may concern the tables and can't be looked into; and the logs are read
-- to their ends. So from every state on which all the changes apply: undoing the selected ones makes no fault, and the tables are then as if
-- only the others had been made.
pub record AreSafe (ss : List Step) (choice : Choice) (ls : List Later) : Type 0 where
  pub untouched : is_untouched (marked_in ss) ≡ true
  pub taken_back : (before after : State) → apply_all (all_changes (marked_in ss)) before ≡ Some after → AsIfNever (marked_in ss) before after
  pub known : unknown_units choice ls ≡ []
  pub whole : is_damaged ls ≡ false

-- So many rows that selected changes left were changed since, by their fingerprints: no fewer were, and more only if rows that aren't equal
-- have equal fingerprints.
abbrev pub AreChanged : List Step → ℕ → Type 0
AreChanged ss rows = (rows ≡ at_most (touches_among ss)) × (0 < touches_among ss)

-- none were, as far as is known; but a unit may concern the tables, or a log isn't read to its end
abbrev pub MayBeChanged : List Step → Choice → List Later → Type 0
MayBeChanged ss choice ls = (touches_among ss ≡ 0) × ((0 < length (unknown_units choice ls)) ⊎ (is_damaged ls ≡ true))
