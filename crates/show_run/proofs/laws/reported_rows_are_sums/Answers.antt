use Rattle.std.proofs.Common.{◌≡◌, ◌+◌, ◌++◌, ℕ, List, [], ◌∷◌, Result, Ok, Err, refl, ap, ◌∙◌}
use Rattle.std.specs.List.{flat_map}
use Rattle.blog_choice.specs.Choice.{Choice}
use Rattle.blog_choice.specs.code.Views.{choice_value}
use Rattle.blog_event.specs.declared.fault.Fault.{Fault}
use Rattle.blog_list.specs.Shown.{changes_of}
use Rattle.blog_report.specs.Said.{Said, nothing_said, with_rows}
use Rattle.blog_report.specs.code.TablesView.{table_key}
use Rattle.blog_report.specs.declared.sums.RowSums.{RowSums}
use Rattle.blog_source.specs.Found.{found_of}
use Rattle.blog_source.specs.Handed.{handed_log}
use Rattle.blog_source.specs.Places.{place_of}
use Rattle.blog_trans.specs.Changes.{TableCount}
use Rattle.blog_trans.specs.Groups.{placed_groups}
use Rattle.blog_units.specs.Units.{Facts, between}
use Rattle.list_run.specs.Listed.{Listing, NamedLog, wanted_of}
use Rattle.show_run.specs.Reported.{chosen, counts_from, counts_of_unit, rows_of, seconds_from, wanted_units, with_changes, with_log, with_logs, with_reported, with_tables, with_units}
use Rattle.show_run.proofs.Reporting.{on-both, rows-all, rows_on}
use Rattle.show_run.proofs.laws.reported_rows_are_sums.Goals as goal

of-tables : (cs : List TableCount) (s : Said) → (with_tables cs s).rows ≡ rows_on s.rows cs
of-tables [] s = refl
of-tables (c ∷ cs) s = of-tables cs (with_rows (table_key c.table.schema c.table.name) (rows_of c) s)

of-changes : (n : ℕ) (place : ℕ → ℕ) (choice : Choice) (u : Facts) (seconds : ℕ) (changes : Result (List TableCount) Fault) (s : Said)
    → (with_changes n place choice u seconds changes s).rows ≡ rows_on s.rows (counts_of_unit choice changes)
of-changes n place choice u seconds (Ok counts) s = of-tables (chosen choice counts) s
of-changes n place choice u seconds (Err fault) s = refl

of-units : (n : ℕ) (place : ℕ → ℕ) (log : List ℕ) (choice : Choice) (us : List Facts) (s : Said)
    → (with_units n place log choice us s).rows ≡ rows_on s.rows (flat_map (λ u. counts_of_unit choice (changes_of log u)) us)
of-units n place log choice [] s = refl
of-units n place log choice (u ∷ us) s =
    of-units n place log choice us (with_reported n place log choice u s)
    ∙ ap (λ (rows : RowSums). rows_on rows (flat_map (λ u. counts_of_unit choice (changes_of log u)) us))
    (of-changes n place choice u (seconds_from u.time (placed_groups log (between u.start u.stop))) (changes_of log u) s)
    ∙ on-both s.rows (counts_of_unit choice (changes_of log u)) (flat_map (λ u. counts_of_unit choice (changes_of log u)) us)

of-logs : (l : Listing) (n : ℕ) (logs : List NamedLog) (s : Said) → (with_logs l n logs s).rows ≡ rows_on s.rows (counts_from l n logs)
of-logs l n [] s = refl
of-logs l n (log ∷ logs) s =
    let handed : List ℕ = handed_log l.how log.bytes in
    let us : List Facts = wanted_units (wanted_of l n) handed in
    of-logs l (1 + n) logs (with_log n (wanted_of l n) handed (found_of l.how log.bytes).end s)
    ∙ ap (λ (rows : RowSums). rows_on rows (counts_from l (1 + n) logs)) (of-units n (place_of handed (found_of l.how log.bytes).end) handed (choice_value l.wanted.choice) us s)
    ∙ on-both s.rows (flat_map (λ u. counts_of_unit (choice_value l.wanted.choice) (changes_of handed u)) us) (counts_from l (1 + n) logs)

pub returns : goal.returns
returns c l logs = of-logs l 0 logs nothing_said ∙ rows-all (counts_from l 0 logs)
