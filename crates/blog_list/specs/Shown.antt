-- What is shown of the units of a log, and which of them are wanted.
use Rattle.std.specs.Prelude.{ℕ, ◌==◌, ◌&&◌, ◌||◌, Bool, true, false, not, nat_le, nat_lt, if◌then◌else◌, List, [], ◌∷◌, map, filter, drop, Option, Some, None, option_and_then, option_map, Result, Ok, Err, codes}
use Rattle.std.specs.List.{count_by, list_any}
use Rattle.std.specs.Option.{option_map_or}
use Rattle.blog_event.specs.declared.fault.Fault.{Fault}
use Rattle.blog_event.specs.declared.fault.Fault.TheVariants.{OutOfPlace, UnknownEvent}
use Rattle.blog_event.specs.Event.{Event, event_at}
use Rattle.blog_event.specs.Fault.{name_of, position_of}
use Rattle.blog_row.specs.Kinds.{query_text}
use Rattle.blog_trans.specs.Acceptance.{fault}
use Rattle.blog_trans.specs.Changes.{TableCount, counts_of}
use Rattle.blog_trans.specs.Groups.{groups}
use Rattle.blog_trans.specs.Selection.{Selection}
use Rattle.blog_units.specs.Units.{Facts, between, facts_of, units}
use Rattle.blog_request.specs.declared.wanted.Concern.{Concern}
use Rattle.blog_request.specs.declared.wanted.Concern.TheVariants.{Wanted as IsWanted, PassedOver, Other}
use Rattle.blog_request.specs.declared.wanted.Wanted.{Wanted}
use Rattle.blog_request.specs.Wanted.{concern_of, is_before, is_wanted_unit}
use Rattle.blog_choice.specs.code.Views.{choice_value}
use Rattle.blog_list.specs.declared.listing.Sorting.{Sorting}
use Rattle.blog_list.specs.Lines.{LogList, Refusal, Shown}

-- ---- what is shown

-- the event of a fault, where it lies below a position
abbrev pub event_of_fault : List ℕ → ℕ → Fault → Option Event
event_of_fault log below fault = option_and_then (λ pos. if nat_lt pos below then event_at (drop pos log) else None) (position_of fault)

-- the text of a Query event
abbrev pub text_of_query : Event → Option (List ℕ)
text_of_query e = if e.kind == 2 then query_text e.body else None

-- What an event is, by its type: TRANSACTION_PAYLOAD_EVENT; XA_PREPARE_LOG_EVENT; INCIDENT_EVENT; VIEW_CHANGE_EVENT; MariaDB's
-- compressed queries and rows; and the other types that it has for itself.
abbrev pub event_words : ℕ → Option (List ℕ)
event_words number =
    if number == 40 then Some (codes "a compressed transaction") else
    if number == 38 then Some (codes "a prepared XA transaction") else
    if number == 26 then Some (codes "an incident") else
    if number == 37 then Some (codes "a change of view in group replication") else
    if nat_le 165 number && nat_le number 171 then Some (codes "a compressed event of MariaDB") else
    if nat_le 160 number then Some (codes "an event of MariaDB") else None

-- what the event of a fault is, where that explains the fault: a second format description (15) comes with a relay log
abbrev pub words_of : Fault → ℕ → Option (List ℕ)
words_of (UnknownEvent pos) number = event_words number
words_of (OutOfPlace pos) number = if number == 15 then Some (codes "a relay log") else event_words number
words_of _ number = None

-- an event is a damaged one that was passed over
abbrev pub is_damaged : Event → Bool
is_damaged e = e.kind == 255

-- what a damaged event was, by its type, which is in the flags: QUERY_EVENT; XID_EVENT; TABLE_MAP_EVENT; the GTID events; rows events
abbrev pub damaged_words : ℕ → Option (List ℕ)
damaged_words number =
    if number == 2 then Some (codes "a query") else
    if number == 16 then Some (codes "the end of a transaction") else
    if number == 19 then Some (codes "a table map") else
    if number == 33 || (number == 34 || number == 42) then Some (codes "a GTID") else
    if (nat_le 23 number && nat_le number 25) || ((nat_le 30 number && nat_le number 32) || number == 39) then Some (codes "rows") else None

-- the name of a fault, of an event if there is one there
abbrev pub shown_name : Fault → Option Event → List ℕ
shown_name fault event = if option_map_or is_damaged event false then codes "Damaged" else name_of fault

-- what the event of a fault is, where it is known
abbrev pub shown_words : Fault → Event → Option (List ℕ)
shown_words fault e = if is_damaged e then damaged_words e.flags else words_of fault e.kind

-- why a unit is refused that stops here, by its fault, with positions at their places
abbrev pub refusal_of : List ℕ → (ℕ → ℕ) → ℕ → Fault → Refusal
refusal_of log place stop fault = record {
  name = shown_name fault (event_of_fault log stop fault);
  pos = option_map place (position_of fault);
  statement = option_and_then text_of_query (event_of_fault log stop fault);
  event = option_and_then (shown_words fault) (event_of_fault log stop fault);
}

abbrev pub changes_shown : List ℕ → (ℕ → ℕ) → ℕ → Result (List TableCount) Fault → Result (List TableCount) Refusal
changes_shown log place stop (Ok counts) = Ok counts
changes_shown log place stop (Err fault) = Err (refusal_of log place stop fault)

-- the rows by table of a log's range, or the range's fault
abbrev pub rows_or : List TableCount → Option Fault → Result (List TableCount) Fault
rows_or counts None = Ok counts
rows_or counts (Some fault) = Err fault

unfoldable pub changes_in : List ℕ → Selection → Result (List TableCount) Fault
changes_in log sel = rows_or (counts_of (groups log sel)) (fault log sel)

-- those of a unit
abbrev pub changes_of : List ℕ → Facts → Result (List TableCount) Fault
changes_of log u = changes_in log (between u.start u.stop)

-- what is shown of a unit with these changes, with positions at their places
abbrev pub shown_with : List ℕ → (ℕ → ℕ) → Facts → Result (List TableCount) Fault → Shown
shown_with log place u changes = record {
  start = place u.start;
  stop = place u.stop;
  time = u.time;
  thread = u.thread;
  id = u.id;
  changes = changes_shown log place u.stop changes;
}

unfoldable pub shown : List ℕ → (ℕ → ℕ) → Facts → Shown
shown log place u = shown_with log place u (changes_of log u)

-- ---- which are listed

-- those in front of a stop
abbrev pub in_front : Option ℕ → List Facts → List Facts
in_front stop [] = []
in_front stop (u ∷ us) = if is_before u.start stop then u ∷ in_front stop us else []

-- those that are wanted
abbrev pub wanted_of : Wanted → List ℕ → List Facts → List Facts
wanted_of w log us = filter (λ u. is_wanted_unit w log u (changes_of log u)) (in_front w.stop us)

-- a statement is passed over
abbrev pub is_passed : Concern → Bool
is_passed PassedOver = true
is_passed IsWanted = false
is_passed Other = false

-- how many of them are passed over
abbrev pub passed_over_of : Wanted → List ℕ → List Facts → ℕ
passed_over_of w log us = count_by (λ u. is_passed (concern_of w log u (changes_of log u))) (in_front w.stop us)

-- the units of a log that are wanted, as they are shown
abbrev pub wanted_shown : Wanted → List ℕ → (ℕ → ℕ) → List Shown
wanted_shown w log place = map (shown log place) (wanted_of w log (map facts_of (units log)))

-- what is listed of a log with this name, sorted so, in which so many damaged events were passed over
abbrev pub log_list : Option (List ℕ) → Sorting → Wanted → List ℕ → (ℕ → ℕ) → ℕ → LogList
log_list name sorting w log place damaged = record {
  name = name;
  units = wanted_shown w log place;
  sorting = sorting;
  choice = choice_value w.choice;
  passed_over = passed_over_of w log (map facts_of (units log));
  damaged = damaged;
}

-- ---- how they end

-- the last unit isn't whole
abbrev pub is_open : List Facts → Bool
is_open [] = false
is_open (u ∷ []) = not u.whole
is_open (u ∷ v ∷ us) = is_open (v ∷ us)

-- whether the last unit is whole, where no unit starts at the stop or behind it
abbrev pub last_whole : Option ℕ → List Facts → Option Bool
last_whole stop us = if list_any (λ u. not (is_before u.start stop)) us then None else Some (not (is_open us))
