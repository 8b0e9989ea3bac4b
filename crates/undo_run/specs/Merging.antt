-- The mistake is taken out of rows that were changed since: that is undone which no other change touches, and the other rows are updated to what
-- they would be.
use Rattle.std.specs.Prelude.{◌≡◌, ◌⊎◌, ◌<◌, ℕ, Bool, true, false, ◌||◌, List, [], ◌++◌, length, nat_lt}
use Rattle.blog_later.specs.Prints.{print_of}
use Rattle.blog_later.specs.Among.{touches_among}
use Rattle.blog_later.specs.code.Counted.{at_most}
use Rattle.blog_left_out.specs.LeftOut.{kept}
use Rattle.blog_merge.specs.Laws.{UndoesAndMergesBy, outside_of}
use Rattle.blog_merge.specs.Merge.{pairs_of, staying}
use Rattle.blog_merge.specs.Pairs.{Pair}
use Rattle.blog_merged.specs.Nets.{nets_of}
use Rattle.blog_run.specs.Writing.{end_of_text}
use Rattle.blog_run.specs.declared.writing.Writing.{Writing}
use Rattle.blog_trans.specs.Changes.{changes, counts_of}
use Rattle.blog_trans.specs.Groups.{groups}
use Rattle.blog_trans.specs.Selection.{all}
use Rattle.list_run.specs.Listed.{NamedLog}
use Rattle.undo_run.specs.After.{is_damaged, unknown_units}
use Rattle.undo_run.specs.Leaving.{AreUnknown, are_all, are_some, marks_undone, mixed, part_undone}
use Rattle.undo_run.specs.Reports.{merged_text, report}
use Rattle.undo_run.specs.Several.{Names}
use Rattle.undo_run.specs.Taken.{Plan, Taken, after, since_told, steps_after, tables_taken}

-- rows as the changes that aren't undone left them, each with what it would be without the selected ones
abbrev pub pairs_left : Taken → List NamedLog → List Pair
pairs_left t logs = pairs_of (outside_of (part_undone t logs) (mixed t logs))

-- how many of them are updated, and how many stay, which wouldn't be there
abbrev pub rows_merged : Taken → List NamedLog → ℕ
rows_merged t logs = length (nets_of (pairs_left t logs))

abbrev pub rows_staying : Taken → List NamedLog → ℕ
rows_staying t logs = length (staying (pairs_left t logs))

-- some changes are undone, or some rows are updated
abbrev pub undoes_some : Taken → List NamedLog → Bool
undoes_some t logs = are_some (marks_undone t logs) || nat_lt 0 (rows_merged t logs)

-- The log that is undone is the one that has all that is taken; or it has updates of rows from what they would be to what they are, and then the
-- changes of the part.
abbrev pub IsMergedLog : Taken → List NamedLog → List ℕ → Type 0
IsMergedLog t logs log = ((are_all (marks_undone t logs) ≡ true) × (log ≡ t.log))
    ⊎ ((are_all (marks_undone t logs) ≡ false) × (undoes_some t logs ≡ true) × (changes log all ≡ nets_of (pairs_left t logs) ++ kept (marks_undone t logs) (changes t.log all)))

-- no unit that isn't selected may concern the tables and can't be looked into, and the logs are read to their ends
pub record IsKnown (t : Taken) (logs : List NamedLog) : Type 0 where
  pub known : unknown_units (tables_taken t) (after t logs) ≡ []
  pub whole : is_damaged (after t logs) ≡ false

-- From every state on which all changes apply: to undo the part, and then to update the other rows, makes no fault, and the tables are then as the
-- changes of others alone, rebased, would have made them, but for the rows that stay.
pub record IsMergeSafe (t : Taken) (logs : List NamedLog) (log : List ℕ) : Type 0 where
  pub merges : UndoesAndMergesBy print_of (mixed t logs)
  pub written : IsMergedLog t logs log
  pub known : IsKnown t logs

-- what is told: how many of the taken transactions are undone, with the rows of the log; and of rows that were changed since how many are updated and
-- how many stay, with lines that say where they were changed
abbrev pub report_merged : Writing → Names → Taken → List NamedLog → List ℕ → List ℕ
report_merged w names t logs log = report w.order names (length (groups t.log all)) (counts_of (groups log all)) (since_told true t logs)

abbrev pub IsMergeTold : Taken → List NamedLog → List ℕ → List ℕ → Type 0
IsMergeTold t logs report told = ((are_all (marks_undone t logs) ≡ true) × (told ≡ report))
    ⊎ ((are_all (marks_undone t logs) ≡ false) × ((lines : List ℕ) × (told ≡ report ++ (merged_text (rows_merged t logs) (rows_staying t logs) ++ lines))))

-- nothing is undone and no row updated: so many rows that selected changes left were changed since
abbrev pub AreNoneMerged : Taken → List NamedLog → ℕ → Type 0
AreNoneMerged t logs rows = (rows ≡ at_most (touches_among (steps_after t logs))) × (undoes_some t logs ≡ false)

-- how units are written that were gathered in a log, as this log
abbrev pub plan_merged : Writing → Names → Taken → List ℕ → Plan
plan_merged w names t log = record {
  safe = λ logs. IsMergeSafe t logs log;
  log = λ logs. log;
  sel = all;
  long = λ logs. IsKnown t logs × ((are_all (marks_undone t logs) ≡ false) ⊎ (4294967295 < end_of_text w.sql w.order w.limit log all));
  told = λ logs told. IsMergeTold t logs (report_merged w names t logs log) told;
  changed = λ rows logs. AreNoneMerged t logs rows;
  unknown = AreUnknown t;
  unmerged = λ logs. IsKnown t logs × (are_all (marks_undone t logs) ≡ false);
}
