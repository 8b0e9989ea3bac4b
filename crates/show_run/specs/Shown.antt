-- Which units of logs are shown, and what is shown of them.
use Rattle.std.specs.Prelude.{◌≡◌, ◌&&◌, ◌||◌, ◌+◌, ℕ, Bool, true, false, nat_le, nat_lt, List, [], ◌∷◌, ◌++◌, filter, map, ⊤, Option, Some, None, Result, Ok, Err}
use Rattle.std.specs.Io.KnownBytes.{Appends, Keeps}
use Rattle.std.specs.List.{list_any}
use Rattle.blog_choice.specs.Choice.{Choice, is_nil}
use Rattle.blog_choice.specs.code.Views.{choice_value}
use Rattle.blog_event.specs.declared.fault.Fault.{Fault}
use Rattle.blog_list.specs.Lines.{name_line}
use Rattle.blog_list.specs.Shown.{changes_of, wanted_of as wanted_among}
use Rattle.blog_list.specs.code.Held.{HasWritten}
use Rattle.blog_list.specs.code.Told.{inside}
use Rattle.blog_list.specs.declared.listing.Sorting.TheVariants.{Place}
use Rattle.blog_request.specs.Wanted.{is_wanted_unit}
use Rattle.blog_request.specs.declared.wanted.Wanted.{Wanted}
use Rattle.blog_row.specs.declared.order.Order.TheVariants.{Forward}
use Rattle.blog_show.specs.Shown.{ShowsEvents}
use Rattle.blog_show.specs.declared.forms.RowForm.{RowForm}
use Rattle.blog_show.specs.declared.forms.RowForm.TheVariants.{Lines, Json, Csv}
use Rattle.blog_source.specs.Found.{found_of}
use Rattle.blog_source.specs.Handed.{handed_log}
use Rattle.blog_source.specs.Places.{place_of, position_of}
use Rattle.blog_source.specs.declared.reading.Reading.{Reading}
use Rattle.blog_trans.specs.Acceptance.{fault}
use Rattle.blog_trans.specs.Groups.{placed_groups}
use Rattle.blog_trans.specs.Selection.{Selection}
use Rattle.blog_trans.specs.code.InTurn.{in_turn}
use Rattle.blog_units.specs.Units.{Facts, between, facts_of, units}
use Rattle.blog_sum.specs.declared.fault.SumFault.{SumFault}
use Rattle.list_run.specs.Listed.{AreRead, IsUnread, Listing, NamedLog, first_end_from, name_shown, wanted_of}
use Rattle.list_run.specs.declared.fault.ListFault.{ListFault}
use Rattle.list_run.specs.declared.fault.ListFault.TheVariants.{Run, Unread, EndsEarly}
use Rattle.list_run.specs.declared.given.GivenLog.{GivenLog}

-- ---- which units

-- a unit has an event at one of these positions, or there are none
abbrev pub is_at : List ℕ → Facts → Bool
is_at positions u = is_nil positions || list_any (λ pos. nat_le u.start pos && nat_lt pos u.stop) positions

-- it is wanted, and at one of the positions
abbrev pub is_shown : Wanted → List ℕ → List ℕ → Facts → Bool
is_shown w positions log u = is_at positions u && is_wanted_unit w log u (changes_of log u)

-- those of these units that are shown
abbrev pub shown_among : Wanted → List ℕ → List ℕ → List Facts → List Facts
shown_among w positions log us = filter (is_at positions) (wanted_among w log us)

-- ---- what is shown of them

-- the rows of its groups; or, if it is refused, something is said of it
abbrev pub ShowsChanges : RowForm → Choice → (ℕ → ℕ) → List ℕ → Selection → Option Fault → List ℕ → List ℕ → Type 0
ShowsChanges form choice place log sel None old new = ShowsEvents form choice place (in_turn Forward (placed_groups log sel)) old new
ShowsChanges form choice place log sel (Some fault) old new = (said : List ℕ) × (new ≡ old ++ said)

abbrev pub ShowsUnit : RowForm → Choice → (ℕ → ℕ) → List ℕ → Facts → List ℕ → List ℕ → Type 0
ShowsUnit form choice place log u old new = ShowsChanges form choice place log (between u.start u.stop) (fault log (between u.start u.stop)) old new

-- several in turn
abbrev pub ShowsUnits : RowForm → Choice → (ℕ → ℕ) → List ℕ → List Facts → List ℕ → List ℕ → Type 0
ShowsUnits form choice place log [] old new = new ≡ old
ShowsUnits form choice place log (u ∷ us) old new = (mid : List ℕ) × ShowsUnit form choice place log u old mid × ShowsUnits form choice place log us mid new

-- what is above the rows of a log: its name, on lines for people
abbrev pub above : RowForm → Option (List ℕ) → List ℕ
above Lines name = name_line name
above (Json log) name = []
above Csv name = []

-- A log's units are shown below its name. Its positions are those of the log that is handed out for it, and places become positions.
abbrev pub ShowsLog : RowForm → Option (List ℕ) → Wanted → List ℕ → List ℕ → ℕ → Option (List ℕ) → Option (List ℕ) → Type 0
ShowsLog form name w places handed end had has = (text : List ℕ) × Appends had has text
    × ShowsUnits form (choice_value w.choice) (place_of handed end) handed (shown_among (inside handed w) (map (position_of handed) places) handed (map facts_of (units handed))) (above form name) text

-- ---- logs in turn

-- which logs are shown: how each is read, what is wanted of them, at which places, and how many they are
pub record Showing : Type 0 where
  pub how : Reading
  pub wanted : Wanted
  pub places : List ℕ
  pub count : ℕ

-- the same logs, as they are listed
abbrev pub listing_in : Showing → Listing
listing_in s = record { how = s.how; wanted = s.wanted; sorting = Place; count = s.count }

-- what is wanted of the n-th, from 0 on
abbrev pub wanted_in : Showing → ℕ → Wanted
wanted_in s n = wanted_of (listing_in s) n

-- in JSON each row has the name of its own log
abbrev pub IsFormOf : RowForm → List ℕ → RowForm → Type 0
IsFormOf Lines name own = own ≡ Lines
IsFormOf (Json log) name own = (log : _) × (own ≡ Json log) × (log.now ≡ name)
IsFormOf Csv name own = own ≡ Csv

-- the n-th
abbrev pub ShowsNamed : RowForm → Showing → ℕ → NamedLog → Option (List ℕ) → Option (List ℕ) → Type 0
ShowsNamed form s n log had has = (own : RowForm) × IsFormOf form log.name own
    × ShowsLog own (name_shown s.count log.name) (wanted_in s n) s.places (handed_log s.how log.bytes) (found_of s.how log.bytes).end had has

-- several, from the n-th on
abbrev pub ShowsEach : RowForm → Showing → ℕ → List NamedLog → Option (List ℕ) → Option (List ℕ) → Type 0
ShowsEach form s n [] had has = Keeps had has
ShowsEach form s n (log ∷ logs) had has = (mid : Option (List ℕ)) × ShowsNamed form s n log had mid × ShowsEach form s (1 + n) logs mid has

-- All given logs, from the n-th on, were read and are shown. Of those that end early this is the first, as in a list.
abbrev pub ShowsGiven : {R : Type 0} → (R → Option (List ℕ)) → RowForm → Showing → ℕ → List (GivenLog R) → Option (ℕ × SumFault)
    → Option (List ℕ) → Option (List ℕ) → Type 0
ShowsGiven known form s n givens end had has =
    (logs : List NamedLog) × AreRead known givens logs × (first_end_from (listing_in s) n logs ≡ end) × ShowsEach form s n logs had has

-- What comes of showing given logs: all are shown, and none ends early; or all are shown, and this one is the first that ends early. Or one
-- can't be read; or a device failed, or memory was refused, and nothing is said of what is shown then.
abbrev pub ShowsLogs : {R : Type 0} → (R → Option (List ℕ)) → RowForm → Showing → List (GivenLog R) → Option (List ℕ) → Option (List ℕ)
    → Result ℕ (ℕ × ListFault) → Type 0
ShowsLogs known form s givens had has (Ok units) = ShowsGiven known form s 0 givens None had has
ShowsLogs known form s givens had has (Err (n, EndsEarly fault)) = ShowsGiven known form s 0 givens (Some (n, fault)) had has
ShowsLogs known form s givens had has (Err (n, Unread fault)) = IsUnread known givens n fault
ShowsLogs known form s givens had has (Err (n, Run fault)) = ⊤

-- ---- on the way

-- a unit that is shown is added to what is held, of which a part may be written then
abbrev pub ShowsIf : Bool → RowForm → Choice → (ℕ → ℕ) → List ℕ → Facts → Option (List ℕ) → Option (List ℕ) → List ℕ → List ℕ → Type 0
ShowsIf true form choice place log u had has old new = (mid : List ℕ) × ShowsUnit form choice place log u old mid × HasWritten had has mid new
ShowsIf false form choice place log u had has old new = (has ≡ had) × (new ≡ old)

-- several, the same
abbrev pub HasShown : RowForm → Choice → (ℕ → ℕ) → List ℕ → List Facts → Option (List ℕ) → Option (List ℕ) → List ℕ → List ℕ → Type 0
HasShown form choice place log us had has old new = (full : List ℕ) × ShowsUnits form choice place log us old full × HasWritten had has full new
