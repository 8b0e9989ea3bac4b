use Rattle.std.proofs.Common.{◌≡◌, ◌+◌, ◌++◌, ℕ, Bool, true, false, List, [], ◌∷◌, Result, Ok, Err, refl, sym, ap, ◌∙◌}
use Rattle.std.proofs.lemmas.List.Elements.{filter-append}
use Rattle.std.specs.Prelude.{filter, if◌then◌else◌, nat_eq}
use Rattle.std.specs.Cmp.Lexicographic.{pointwise, same_text}
use Rattle.std.specs.List.{flat_map}
use Rattle.blog_choice.specs.Choice.{Choice}
use Rattle.blog_choice.specs.code.Views.{choice_value}
use Rattle.blog_event.specs.declared.fault.Fault.{Fault}
use Rattle.blog_list.specs.Shown.{changes_of}
use Rattle.blog_report.specs.Cells.{added_at}
use Rattle.blog_report.specs.Said.{Said, nothing_said, with_rows}
use Rattle.blog_report.specs.Sums.{plus}
use Rattle.blog_report.specs.code.TablesView.{table_key}
use Rattle.blog_report.specs.declared.sums.RowSums.{RowSums}
use Rattle.blog_source.specs.Found.{found_of}
use Rattle.blog_source.specs.Handed.{handed_log}
use Rattle.blog_source.specs.Places.{place_of}
use Rattle.blog_trans.specs.Changes.{TableCount}
use Rattle.blog_trans.specs.Groups.{placed_groups}
use Rattle.blog_units.specs.Units.{Facts, between}
use Rattle.list_run.specs.Listed.{Listing, NamedLog, wanted_of}
use Rattle.show_run.specs.Reported.{chosen, counts_from, counts_of_unit, is_of_key, rows_at, rows_of, seconds_from, wanted_units, with_changes, with_log, with_logs, with_reported, with_tables, with_units}
use Rattle.show_run.proofs.Reporting.{on-both, rows-all, rows-by, rows_on}
use Rattle.show_run.proofs.laws.rows_of_each_table_are_sums.Goals as goal

-- rows are added at the first place of their key, or behind all: `at` says whether this is the place, `here` whether it has the key that is looked
-- for, and `own` whether the rows have it
place-by : (at here own : Bool) (here_rows rows behind added : RowSums) → (at ≡ true → here ≡ own) → (at ≡ false → here ≡ true → own ≡ true → ⊥) → added ≡ (if own then plus behind rows else behind)
    → (if at then (if here then plus here_rows rows else behind) else (if here then here_rows else added)) ≡ (if own then plus (if here then here_rows else behind) rows else (if here then here_rows else behind))
place-by true true true here_rows rows behind added same other is = refl
place-by true true false here_rows rows behind added same other is = let no : true ≡ false = same refl in cc
place-by true false true here_rows rows behind added same other is = let no : false ≡ true = same refl in cc
place-by true false false here_rows rows behind added same other is = refl
place-by false true true here_rows rows behind added same other is = absurd (other refl refl refl)
place-by false true false here_rows rows behind added same other is = refl
place-by false false own here_rows rows behind added same other is = is

look-by : (at : Bool) (key : List ℕ) (e : List ℕ × RowSums) (es added : List (List ℕ × RowSums)) (rows : RowSums)
    → rows_at key (if at then (e.0, plus e.1 rows) ∷ es else e ∷ added)
    ≡ (if at then (if pointwise nat_eq key e.0 then plus e.1 rows else rows_at key es) else (if pointwise nat_eq key e.0 then e.1 else rows_at key added))
look-by true key e es added rows = refl
look-by false key e es added rows = refl

-- rows that are added are found at their key alone
added-at : (key : List ℕ) (es : List (List ℕ × RowSums)) (own : List ℕ) (rows : RowSums)
    → rows_at key (added_at (pointwise nat_eq) es own rows) ≡ (if pointwise nat_eq key own then plus (rows_at key es) rows else rows_at key es)
added-at key [] own rows = refl
added-at key (e ∷ es) own rows =
    look-by (pointwise nat_eq own e.0) key e es (added_at (pointwise nat_eq) es own rows) rows
    ∙ place-by (pointwise nat_eq own e.0) (pointwise nat_eq key e.0) (pointwise nat_eq key own) e.1 rows (rows_at key es) (rows_at key (added_at (pointwise nat_eq) es own rows))
    (λ is. ap (λ (x : List ℕ). pointwise nat_eq key x) (sym (same_text own e.0 (sym is))))
    (λ isnt here is. let no : true ≡ false = sym here ∙ ap (λ (x : List ℕ). pointwise nat_eq x e.0) (same_text key own (sym is)) ∙ isnt in cc)
    (added-at key es own rows)

of-tables : (key : List ℕ) (cs : List TableCount) (s : Said) → rows_at key (with_tables cs s).tables ≡ rows_on (rows_at key s.tables) (filter (is_of_key key) cs)
of-tables key [] s = refl
of-tables key (c ∷ cs) s =
    of-tables key cs (with_rows (table_key c.table.schema c.table.name) (rows_of c) s)
    ∙ ap (λ (rows : RowSums). rows_on rows (filter (is_of_key key) cs)) (added-at key s.tables (table_key c.table.schema c.table.name) (rows_of c))
    ∙ sym (rows-by (is_of_key key c) c (filter (is_of_key key) cs) (rows_at key s.tables))

of-changes : (key : List ℕ) (n : ℕ) (place : ℕ → ℕ) (choice : Choice) (u : Facts) (seconds : ℕ) (changes : Result (List TableCount) Fault) (s : Said)
    → rows_at key (with_changes n place choice u seconds changes s).tables ≡ rows_on (rows_at key s.tables) (filter (is_of_key key) (counts_of_unit choice changes))
of-changes key n place choice u seconds (Ok counts) s = of-tables key (chosen choice counts) s
of-changes key n place choice u seconds (Err fault) s = refl

on-parts : (key : List ℕ) (rows : RowSums) (cs ds : List TableCount)
    → rows_on (rows_on rows (filter (is_of_key key) cs)) (filter (is_of_key key) ds) ≡ rows_on rows (filter (is_of_key key) (cs ++ ds))
on-parts key rows cs ds = on-both rows (filter (is_of_key key) cs) (filter (is_of_key key) ds) ∙ ap (rows_on rows) (sym (filter-append (is_of_key key) cs ds))

of-units : (key : List ℕ) (n : ℕ) (place : ℕ → ℕ) (log : List ℕ) (choice : Choice) (us : List Facts) (s : Said)
    → rows_at key (with_units n place log choice us s).tables ≡ rows_on (rows_at key s.tables) (filter (is_of_key key) (flat_map (λ u. counts_of_unit choice (changes_of log u)) us))
of-units key n place log choice [] s = refl
of-units key n place log choice (u ∷ us) s =
    of-units key n place log choice us (with_reported n place log choice u s)
    ∙ ap (λ (rows : RowSums). rows_on rows (filter (is_of_key key) (flat_map (λ u. counts_of_unit choice (changes_of log u)) us)))
    (of-changes key n place choice u (seconds_from u.time (placed_groups log (between u.start u.stop))) (changes_of log u) s)
    ∙ on-parts key (rows_at key s.tables) (counts_of_unit choice (changes_of log u)) (flat_map (λ u. counts_of_unit choice (changes_of log u)) us)

of-logs : (key : List ℕ) (l : Listing) (n : ℕ) (logs : List NamedLog) (s : Said)
    → rows_at key (with_logs l n logs s).tables ≡ rows_on (rows_at key s.tables) (filter (is_of_key key) (counts_from l n logs))
of-logs key l n [] s = refl
of-logs key l n (log ∷ logs) s =
    let handed : List ℕ = handed_log l.how log.bytes in
    let us : List Facts = wanted_units (wanted_of l n) handed in
    of-logs key l (1 + n) logs (with_log n (wanted_of l n) handed (found_of l.how log.bytes).end s)
    ∙ ap (λ (rows : RowSums). rows_on rows (filter (is_of_key key) (counts_from l (1 + n) logs)))
    (of-units key n (place_of handed (found_of l.how log.bytes).end) handed (choice_value l.wanted.choice) us s)
    ∙ on-parts key (rows_at key s.tables) (flat_map (λ u. counts_of_unit (choice_value l.wanted.choice) (changes_of handed u)) us) (counts_from l (1 + n) logs)

pub returns : goal.returns
returns c l logs key = of-logs key l 0 logs nothing_said ∙ rows-all (filter (is_of_key key) (counts_from l 0 logs))
