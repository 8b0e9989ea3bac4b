-- Rows that were changed since are left as they are: of what is taken out of a log, that is undone which no other change touches.
use Rattle.std.specs.Prelude.{◌≡◌, ◌⊎◌, ◌<◌, ℕ, Bool, true, false, not, if◌then◌else◌, List, [], ◌++◌, length, filter}
use Rattle.std.specs.List.{list_all, list_any}
use Rattle.blog_later.specs.Among.{marked_in, touches_among}
use Rattle.blog_later.specs.Prints.{print_of}
use Rattle.blog_later.specs.code.Counted.{at_most}
use Rattle.blog_left_out.specs.LeftOut.{left_out_text}
use Rattle.blog_run.specs.Writing.{end_of_text}
use Rattle.blog_run.specs.declared.writing.Writing.{Writing}
use Rattle.blog_trans.specs.Selection.{all}
use Rattle.blog_undo.specs.Mixed.{Marked}
use Rattle.blog_untouched.specs.ByPrints.{part_by}
use Rattle.blog_untouched.specs.Laws.{IsUndoable}
use Rattle.blog_untouched.specs.Recorded.{marks_in}
use Rattle.list_run.specs.Listed.{NamedLog}
use Rattle.undo_run.specs.After.{is_damaged, unknown_units}
use Rattle.undo_run.specs.Reports.{left_text}
use Rattle.undo_run.specs.Several.{Names}
use Rattle.undo_run.specs.Taken.{Plan, Taken, after, report_taken, steps_after, tables_taken}

-- all changes from the first selected one on
abbrev pub mixed : Taken → List NamedLog → List Marked
mixed t logs = marked_in (steps_after t logs)

-- those of the selected ones that are undone: rows are compared by fingerprints
abbrev pub part_undone : Taken → List NamedLog → List Marked
part_undone t logs = part_by print_of (mixed t logs)

-- for each selected change, whether it is undone
abbrev pub marks_undone : Taken → List NamedLog → List Bool
marks_undone t logs = marks_in (mixed t logs) (part_undone t logs)

-- all are, or some
abbrev pub are_all : List Bool → Bool
are_all marks = list_all (λ b. b) marks

abbrev pub are_some : List Bool → Bool
are_some marks = list_any (λ b. b) marks

-- how many aren't
abbrev pub rows_left : Taken → List NamedLog → ℕ
rows_left t logs = length (filter not (marks_undone t logs))

-- the log that has them: the one that has all that is taken, or that without the rows of the others
abbrev pub log_undone : Taken → List NamedLog → List ℕ
log_undone t logs = if are_all (marks_undone t logs) then t.log else left_out_text (marks_undone t logs) t.log all

-- Some are undone. From every state on which all changes apply: that makes no fault, and the tables are then as if only the others had been made.
-- No unit that isn't selected may concern the tables and can't be looked into, and the logs are read to their ends.
pub record IsPartSafe (t : Taken) (logs : List NamedLog) : Type 0 where
  pub undoable : IsUndoable (mixed t logs) (part_undone t logs)
  pub some : are_some (marks_undone t logs) ≡ true
  pub known : unknown_units (tables_taken t) (after t logs) ≡ []
  pub whole : is_damaged (after t logs) ≡ false

-- what is told of rows that are left: how many, and lines that say where they were changed
abbrev pub IsLeftTold : Taken → List NamedLog → List ℕ → List ℕ → Type 0
IsLeftTold t logs report told =
    ((are_all (marks_undone t logs) ≡ true) × (told ≡ report)) ⊎ ((are_all (marks_undone t logs) ≡ false) × ((lines : List ℕ) × (told ≡ report ++ (left_text (rows_left t logs) ++ lines))))

-- none is undone: so many rows that selected changes left were changed since
abbrev pub AreAllChanged : Taken → List NamedLog → ℕ → Type 0
AreAllChanged t logs rows = (rows ≡ at_most (touches_among (steps_after t logs))) × (are_some (marks_undone t logs) ≡ false)

-- a unit may concern the tables, or a log isn't read to its end
abbrev pub AreUnknown : Taken → List NamedLog → Type 0
AreUnknown t logs = (0 < length (unknown_units (tables_taken t) (after t logs))) ⊎ (is_damaged (after t logs) ≡ true)

-- how units are written that were gathered in a log
abbrev pub plan_left : Writing → Names → Taken → Plan
plan_left w names t = record {
  safe = IsPartSafe t;
  log = log_undone t;
  sel = all;
  long = λ logs. IsPartSafe t logs × ((4294967295 < length (log_undone t logs)) ⊎ (4294967295 < end_of_text w.sql w.order w.limit (log_undone t logs) all));
  told = λ logs told. IsLeftTold t logs (report_taken true w names t logs (log_undone t logs) all) told;
  changed = λ rows logs. AreAllChanged t logs rows;
  unknown = AreUnknown t;
  unmerged = λ logs. ⊥;
}
