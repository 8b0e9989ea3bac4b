-- Why nothing of some logs is wanted.
use Rattle.std.specs.Prelude.{◌≡◌, ◌≤◌, ℕ, ◌==◌, ◌&&◌, ◌||◌, Bool, true, false, not, if◌then◌else◌, List, [], drop, filter, filter_map, flat_map, length, map, Contains, Option, Some, None, is_some, option_map}
use Rattle.std.specs.List.{AllByRecursion, list_any}
use Rattle.blog_event.specs.File.{Placed, placed_from, read}
use Rattle.blog_row.specs.TableMap.{Table, names_of}
use Rattle.blog_units.specs.Units.{Facts, facts_of, units}
use Rattle.blog_choice.specs.Choice.{Choice, chooses, is_nil}
use Rattle.blog_choice.specs.code.Views.{choice_value}
use Rattle.blog_request.specs.Wanted.{is_before, is_from}
use Rattle.blog_request.specs.declared.wanted.Wanted.{Wanted}
use Rattle.blog_reasons.specs.Near.{AreNear}
use Rattle.blog_reasons.specs.declared.reason.Reason.{Reason}
use Rattle.blog_reasons.specs.declared.reason.Reason.TheVariants.{NoUnit, NoTime, NoTable, Other}

-- ---- what logs have

-- a log, and its range of positions: from a start and before a stop, which may be absent
pub record Looked : Type 0 where
  pub log : List ℕ
  pub start : Option ℕ
  pub stop : Option ℕ

-- its units that start in the range
abbrev pub units_in_range : Looked → List Facts
units_in_range l = filter (λ u. is_from u.start l.start && is_before u.start l.stop) (map facts_of (units l.log))

abbrev pub all_units : List Looked → List Facts
all_units logs = flat_map units_in_range logs

-- the table that an event names: a TABLE_MAP_EVENT whose body has names (MySQL Internals manual, "Table_map_event")
abbrev pub table_named : Placed → Option Table
table_named p = if p.event.kind == 19 then option_map (λ names. names.table) (names_of p.event.body) else None

-- the tables that the events of a log name
unfoldable pub tables_named : List ℕ → List Table
tables_named log = filter_map table_named (drop 1 (placed_from 4 (read log None)))

abbrev pub all_tables : List Looked → List Table
all_tables logs = flat_map (λ l. tables_named l.log) logs

-- ---- what is wanted of them

-- a unit is of the wanted times
abbrev pub is_in_times : Wanted → Facts → Bool
is_in_times w u = is_from u.time w.from_time && is_before u.time w.to_time

-- tables or a database are asked for
abbrev pub asks_for_tables : Choice → Bool
asks_for_tables choice = is_some choice.database || not (is_nil choice.tables)

-- a table is chosen
abbrev pub is_chosen : Choice → Table → Bool
is_chosen choice t = chooses choice t.schema t.name

-- ---- the reason

-- the least and the greatest time of units
pub record AreEnds (us : List Facts) (first last : ℕ) : Type 0 where
  pub one_is_first : list_any (λ u. u.time == first) us ≡ true
  pub one_is_last : list_any (λ u. u.time == last) us ≡ true
  pub all_between : AllByRecursion (λ u. (first ≤ u.time) × (u.time ≤ last)) us

-- why nothing of these logs is wanted: the first of these that holds
abbrev pub IsReason : {A : Type 0} → Wanted → List Looked → Reason A → Type 0
IsReason w logs NoUnit = all_units logs ≡ []
IsReason w logs (NoTime first last) = AreEnds (all_units logs) first last × (list_any (is_in_times w) (all_units logs) ≡ false)
IsReason w logs (NoTable near) =
    (list_any (is_in_times w) (all_units logs) ≡ true) × (asks_for_tables (choice_value w.choice) ≡ true)
    × (list_any (is_chosen (choice_value w.choice)) (all_tables logs) ≡ false) × AreNear (all_tables logs) near.now
IsReason w logs Other =
    (list_any (is_in_times w) (all_units logs) ≡ true)
    × ((asks_for_tables (choice_value w.choice) && not (list_any (is_chosen (choice_value w.choice)) (all_tables logs))) ≡ false)
