-- Which units of logs are reported, and what is said of them: those that a list has.
use Rattle.std.specs.Prelude.{◌≡◌, ◌+◌, ◌-◌, ℕ, List, [], ◌∷◌, ◌++◌, filter, length, map, slice_get, Option, Result, Ok, Err, Bool, nat_eq, if◌then◌else◌}
use Rattle.std.specs.Cmp.Lexicographic.{pointwise}
use Rattle.std.specs.List.{flat_map, sum_by}
use Rattle.std.specs.Option.{option_map_or}
use Rattle.blog_choice.specs.Choice.{Choice, chooses}
use Rattle.blog_choice.specs.code.Views.{choice_value}
use Rattle.blog_event.specs.declared.fault.Fault.{Fault}
use Rattle.blog_list.specs.Shown.{changes_of, wanted_of as wanted_among}
use Rattle.blog_list.specs.code.Told.{inside}
use Rattle.blog_report.specs.Said.{Said, nothing_said, with_refusal, with_rows, with_unit}
use Rattle.blog_report.specs.Sums.{at_most, none}
use Rattle.blog_report.specs.code.TablesView.{table_key}
use Rattle.blog_report.specs.declared.facts.UnitFact.{UnitFact}
use Rattle.blog_report.specs.declared.sums.RowSums.{RowSums}
use Rattle.blog_request.specs.declared.wanted.Wanted.{Wanted}
use Rattle.blog_source.specs.Found.{found_of}
use Rattle.blog_source.specs.Handed.{handed_log}
use Rattle.blog_source.specs.Places.{place_of}
use Rattle.blog_sum.specs.declared.fault.SumFault.{SumFault}
use Rattle.blog_trans.specs.Changes.{TableCount}
use Rattle.blog_trans.specs.Groups.{PlacedTransaction, placed_groups}
use Rattle.blog_units.specs.Units.{Facts, between, facts_of, units}
use Rattle.list_run.specs.Listed.{AreRead, Listing, NamedLog, first_end_from, wanted_of}
use Rattle.list_run.specs.declared.given.GivenLog.{GivenLog}

-- ---- a unit

-- those of some tables that are chosen
abbrev pub chosen : Choice → List TableCount → List TableCount
chosen choice counts = filter (λ c. chooses choice c.table.schema c.table.name) counts

-- the rows of a table, and of all these tables
abbrev pub rows_of : TableCount → RowSums
rows_of c = record { inserts = c.inserts; updates = c.updates; deletes = c.deletes }

abbrev pub sum_rows : List TableCount → RowSums
sum_rows counts = record {
  inserts = at_most (sum_by (λ c. c.inserts) counts);
  updates = at_most (sum_by (λ c. c.updates) counts);
  deletes = at_most (sum_by (λ c. c.deletes) counts);
}

-- how many seconds after a time the last of these transactions ended; 0 where there is none
abbrev pub seconds_from : ℕ → List PlacedTransaction → ℕ
seconds_from time ts = option_map_or (λ t. t.end.event.timestamp - time) (slice_get ts (length ts - 1)) 0

-- What is said of a unit of the n-th log: where it starts and how long it is in the server's log, when its first statement was written and how
-- many seconds it took, who wrote it, and how many rows it changes.
abbrev pub unit_fact : ℕ → (ℕ → ℕ) → Facts → ℕ → RowSums → UnitFact
unit_fact n place u seconds rows = record {
  log = n;
  position = place u.start;
  time = u.time;
  seconds = seconds;
  bytes = place u.stop - place u.start;
  thread = u.thread;
  rows = rows;
}

-- the rows of each of some tables are added
abbrev pub with_tables : List TableCount → Said → Said
with_tables [] s = s
with_tables (c ∷ cs) s = with_tables cs (with_rows (table_key c.table.schema c.table.name) (rows_of c) s)

-- a unit is added with the rows of chosen tables that it changes, or, if it is refused, as one that can't be undone
abbrev pub with_changes : ℕ → (ℕ → ℕ) → Choice → Facts → ℕ → Result (List TableCount) Fault → Said → Said
with_changes n place choice u seconds (Ok counts) s =
    with_unit (unit_fact n place u seconds (sum_rows (chosen choice counts))) (with_tables (chosen choice counts) s)
with_changes n place choice u seconds (Err fault) s = with_refusal (unit_fact n place u 0 none) s

abbrev pub with_reported : ℕ → (ℕ → ℕ) → List ℕ → Choice → Facts → Said → Said
with_reported n place log choice u s = with_changes n place choice u (seconds_from u.time (placed_groups log (between u.start u.stop))) (changes_of log u) s

-- ---- logs

-- units are added in turn
abbrev pub with_units : ℕ → (ℕ → ℕ) → List ℕ → Choice → List Facts → Said → Said
with_units n place log choice [] s = s
with_units n place log choice (u ∷ us) s = with_units n place log choice us (with_reported n place log choice u s)

-- the units of a log that are wanted, as they are listed
abbrev pub wanted_units : Wanted → List ℕ → List Facts
wanted_units w handed = wanted_among (inside handed w) handed (map facts_of (units handed))

-- those of the n-th log are added, of which this is wanted
abbrev pub with_log : ℕ → Wanted → List ℕ → ℕ → Said → Said
with_log n w handed end s = with_units n (place_of handed end) handed (choice_value w.choice) (wanted_units w handed) s

-- those of logs, from the n-th on; and how many they are
abbrev pub with_logs : Listing → ℕ → List NamedLog → Said → Said
with_logs l n [] s = s
with_logs l n (log ∷ logs) s = with_logs l (1 + n) logs (with_log n (wanted_of l n) (handed_log l.how log.bytes) (found_of l.how log.bytes).end s)

abbrev pub units_from : Listing → ℕ → List NamedLog → ℕ
units_from l n [] = 0
units_from l n (log ∷ logs) = length (wanted_units (wanted_of l n) (handed_log l.how log.bytes)) + units_from l (1 + n) logs

-- ---- their rows

-- the rows by table that a unit changes, of chosen tables; of one that is refused none
abbrev pub counts_of_unit : Choice → Result (List TableCount) Fault → List TableCount
counts_of_unit choice (Ok counts) = chosen choice counts
counts_of_unit choice (Err fault) = []

-- those of the wanted units of logs, from the n-th on
abbrev pub counts_from : Listing → ℕ → List NamedLog → List TableCount
counts_from l n [] = []
counts_from l n (log ∷ logs) =
    let handed = handed_log l.how log.bytes in
    flat_map (λ u. counts_of_unit (choice_value l.wanted.choice) (changes_of handed u)) (wanted_units (wanted_of l n) handed) ++ counts_from l (1 + n) logs

-- they are those of the table with this key
abbrev pub is_of_key : List ℕ → TableCount → Bool
is_of_key key c = pointwise nat_eq key (table_key c.table.schema c.table.name)

-- the rows that are said of the table with this key; none if nothing is said of it
abbrev pub rows_at : List ℕ → List (List ℕ × RowSums) → RowSums
rows_at key [] = none
rows_at key (t ∷ ts) = if pointwise nat_eq key t.0 then t.1 else rows_at key ts

-- ---- a report

-- All given logs were read, and so many units of them are reported, and this is said of them. Of the logs that end early this is the first.
abbrev pub IsReportOf : {R : Type 0} → (R → Option (List ℕ)) → Listing → List (GivenLog R) → Option (ℕ × SumFault) → ℕ → Said → Type 0
IsReportOf known l givens end count said =
    (logs : List NamedLog) × AreRead known givens logs × (first_end_from l 0 logs ≡ end)
    × (count ≡ at_most (units_from l 0 logs)) × (said ≡ with_logs l 0 logs nothing_said)
