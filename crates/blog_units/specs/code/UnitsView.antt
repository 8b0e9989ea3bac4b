-- What a contract sees of a unit, and of an iterator over the units of a log.
use Rattle.std.specs.Prelude.{◌≡◌, ℕ, ◌+◌, ◌≤◌, Bool, List, ◌∷◌, length, map, find, Option, None, Some, IfSome, option_map, Result, MatchResult, if◌then◌else◌}
use Rattle.std.specs.Iterator.{YieldsFirstBy}
use Rattle.blog_event.specs.declared.event.Event as event
use Rattle.blog_event.specs.declared.fault.Fault.{Fault}
use Rattle.blog_event.specs.declared.log.Log.{Log}
use Rattle.blog_event.specs.Event.{event_of, event_size}
use Rattle.blog_event.specs.File.{Placed}
use Rattle.blog_event.specs.code.LogView.{log_bytes}
use Rattle.blog_trans.specs.Acceptance.{fault, IsAccepted, IsRefusal}
use Rattle.blog_trans.specs.declared.groups.Index.{Index}
use Rattle.blog_trans.specs.code.IndexView.{index_bytes, index_selection}
use Rattle.blog_trans.specs.Places.{kind_at, placed}
use Rattle.blog_trans.specs.Selection.{Selection}
use Rattle.blog_units.specs.declared.part.Part.{Part}
use Rattle.blog_units.specs.declared.unit.GlobalId as told
use Rattle.blog_units.specs.declared.unit.Seen.{Seen}
use Rattle.blog_units.specs.declared.unit.Unit as given
use Rattle.blog_units.specs.declared.unit_facts.UnitFacts as found
use Rattle.blog_units.specs.declared.units.Units.{Units}
use Rattle.blog_units.specs.code.Boundaries.{IsBoundary, events_behind}
use Rattle.blog_units.specs.Units.{Facts, Id, between, end_behind, facts_of, is_query, is_query_or_rows, opened_by, part_behind, rest_of, thread_of, units_in}

-- an id of the program, without where its bytes lie
abbrev pub id_told : told.GlobalId → Id
id_told id = record { server = id.server.now; tag = id.tag.now; number = id.number }

-- what is told of a unit of the program
abbrev pub facts_told : found.UnitFacts → Facts
facts_told unit = record {
  start = unit.start;
  stop = unit.stop;
  time = unit.time;
  thread = unit.thread;
  id = option_map id_told unit.id;
  whole = unit.whole;
}

-- these are the groups of a range, or this is the range's fault
abbrev pub AreGroups : {A : Type 0} → List ℕ → Selection → Result (Index A) Fault → Type 0
AreGroups bytes sel groups =
    MatchResult groups (λ index. IsAccepted bytes sel × (index_bytes index ≡ bytes) × (index_selection index ≡ sel)) (IsRefusal (fault bytes sel))

-- a unit tells what may be undone of its own range
abbrev pub IsJudged : {A : Type 0} → List ℕ → given.Unit A → Type 0
IsJudged bytes unit = AreGroups bytes (between unit.facts.start unit.facts.stop) unit.groups

-- the first event, from a position on, that begins a unit, which has this part with it
pub record IsFirst (bytes : List ℕ) (from : ℕ) (found : event.Event × Part) : Type 0 where
  pub opened : opened_by (kind_at (placed found.0)) ≡ Some found.1
  pub units : units_in None (events_behind bytes from)
      ≡ record { first = placed found.0; rest = rest_of (Some found.1) (events_behind bytes (found.0.pos + found.0.header.size)) } ∷ units_in (Some found.1) (events_behind bytes (found.0.pos + found.0.header.size))
  pub size : found.0.header.size ≡ event_size (event_of found.0)
  pub boundary : IsBoundary bytes found.0.pos
  pub behind : IsBoundary bytes (found.0.pos + found.0.header.size)
  pub within : found.0.pos + found.0.header.size ≤ length bytes

-- what is known, or what the first of these events tells that passes a test
abbrev pub or_first : (Placed → Bool) → (Placed → ℕ) → Option ℕ → List Placed → Option ℕ
or_first test told (Some known) ps = Some known
or_first test told None ps = option_map told (find test ps)

-- the same with one more event
abbrev pub or_this : (Placed → Bool) → (Placed → ℕ) → Option ℕ → Placed → Option ℕ
or_this test told (Some known) p = Some known
or_this test told None p = if test p then Some (told p) else None

abbrev pub timestamp_of : Placed → ℕ
timestamp_of p = p.event.timestamp

-- the time and the thread that are known, or those of these events
abbrev pub seen_of : Seen → List Placed → Seen
seen_of seen ps = record { time = or_first is_query_or_rows timestamp_of seen.time ps; thread = or_first is_query thread_of seen.thread ps }

-- the same with one more event
abbrev pub seen_with : Seen → Placed → Seen
seen_with seen p = record { time = or_this is_query_or_rows timestamp_of seen.time p; thread = or_this is_query thread_of seen.thread p }

-- nothing is known
abbrev pub none_seen : Seen
none_seen = record { time = None; thread = None }

-- A unit of this part goes on from a position and stops at another; this is what is seen of it, and what it has then. The events
-- behind the one position and the other are these.
pub record HasStopped (from at : ℕ) (part : Part) (known seen : Seen) (last : Option Part) (ps qs : List Placed) : Type 0 where
  pub stops : at ≡ end_behind from (rest_of (Some part) ps)
  pub units_are : units_in (Some part) ps ≡ units_in None qs
  pub seen_is : seen ≡ seen_of known (rest_of (Some part) ps)
  pub last_is : last ≡ part_behind (Some part) (rest_of (Some part) ps)

-- what is told of the units that are left
abbrev pub units_left : Units → List Facts
units_left units = map facts_of (units_in None (events_behind (log_bytes units.log) units.at))

-- the log of the units
abbrev pub units_log : Units → Log
units_log units = units.log

-- a step gives the first unit that is left, and none where none is
pub record GivesUnit (before : Units) (unit : Option found.UnitFacts) (after : Units) : Type 0 where
  pub first : YieldsFirstBy facts_told units_left before unit after
  pub of_log : IfSome unit (λ u. u.log ≡ before.log)
  pub log : after.log ≡ before.log
