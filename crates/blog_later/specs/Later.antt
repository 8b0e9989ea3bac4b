-- What a log has after a position, and which of it may concern chosen tables.
use Rattle.std.specs.Prelude.{ℕ, Bool, not, ◌&&◌, if◌then◌else◌, List, [], map, filter, length, is_none}
use Rattle.std.specs.List.{flat_map}
use Rattle.blog_choice.specs.Choice.{Choice}
use Rattle.blog_request.specs.Passing.{is_passed_over, unit_events}
use Rattle.blog_trans.specs.Acceptance.{fault}
use Rattle.blog_trans.specs.Changes.{Change, changes}
use Rattle.blog_units.specs.Units.{Facts, between, facts_of, units_from}
use Rattle.blog_later.specs.Prints.{Left, takes_left}

-- the units of the events of a log that begin at a position or after it
abbrev pub later_units : List ℕ → ℕ → List Facts
later_units bytes at = map facts_of (units_from bytes at)

-- ---- units that can be undone by themselves

abbrev pub is_accepted : List ℕ → Facts → Bool
is_accepted bytes u = is_none (fault bytes (between u.start u.stop))

-- their changes
abbrev pub unit_changes : List ℕ → Facts → List Change
unit_changes bytes u = if is_accepted bytes u then changes bytes (between u.start u.stop) else []

abbrev pub changes_in : List ℕ → List Facts → List Change
changes_in bytes us = flat_map (unit_changes bytes) us

-- How many of these take a row by these fingerprints. If they are those of rows that were left, no fewer take such a row, and more do
-- only if rows that aren't equal have equal fingerprints.
abbrev pub touches_in : Left → List ℕ → List Facts → ℕ
touches_in left bytes us = length (filter (takes_left left) (changes_in bytes us))

-- ---- the others

-- each event leaves the chosen tables alone: it is a statement that names none of them, or begins or ends a transaction
abbrev pub leaves_alone : Choice → List ℕ → Facts → Bool
leaves_alone choice bytes u = is_passed_over choice (unit_events bytes u.start u.stop)

-- a unit that can't be undone by itself, and may concern chosen tables
abbrev pub may_concern : Choice → List ℕ → Facts → Bool
may_concern choice bytes u = not (is_accepted bytes u) && not (leaves_alone choice bytes u)

-- one that can't be, and doesn't concern them
abbrev pub is_apart : Choice → List ℕ → Facts → Bool
is_apart choice bytes u = not (is_accepted bytes u) && leaves_alone choice bytes u
