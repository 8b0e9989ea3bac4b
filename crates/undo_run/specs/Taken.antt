-- What is taken out of a log to be written, what came after it, and what comes of writing it.
use Rattle.std.specs.Prelude.{◌≡◌, ◌⊎◌, ℕ, ◌<◌, nat_lt, Bool, true, false, if◌then◌else◌, List, [], ◌∷◌, ◌++◌, length, map, filter, slice_get, ⊤, Option, Some, None, Vec, Result, Ok, Err}
use Rattle.std.specs.Io.KnownBytes.{Appends, Keeps}
use Rattle.blog_choice.specs.Choice.{Choice, Name}
use Rattle.blog_device.specs.Devices.{AppendsBeginning, PassesLimit, ReadsLog, greatest_length}
use Rattle.blog_device.specs.Watched.{device_of}
use Rattle.blog_device.specs.declared.fault.RunFault.TheVariants as run
use Rattle.blog_event.specs.declared.fault.Fault.TheVariants.{OutOfMemory, TooLong as TooLongLog}
use Rattle.blog_later.specs.Among.{Step}
use Rattle.blog_later.specs.Later.{later_units}
use Rattle.blog_later.specs.code.Counted.{at_most}
use Rattle.blog_run.specs.Writing.{CanBeWritten, end_of_text, lacks, text_of}
use Rattle.blog_run.specs.declared.writing.Writing.{Writing}
use Rattle.blog_source.specs.Found.{found_of, source_refusal}
use Rattle.blog_source.specs.Handed.{handed_log}
use Rattle.blog_source.specs.Laws.{whole_reading}
use Rattle.blog_text.specs.Tables.{rows_in}
use Rattle.blog_trans.specs.Changes.{TableCount, counts_of}
use Rattle.blog_trans.specs.Groups.{groups}
use Rattle.blog_trans.specs.Selection.{Selection}
use Rattle.list_run.specs.Listed.{AreRead, NamedLog}
use Rattle.list_run.specs.declared.given.GivenLog.{GivenLog}
use Rattle.undo_run.specs.After.{AreChanged, AreSafe, Later, MayBeChanged, accepted_units, last_end, last_next, later_step, places_apart}
use Rattle.undo_run.specs.Reports.{Since, report}
use Rattle.undo_run.specs.Several.{Names, one_name}
use Rattle.undo_run.specs.declared.fault.OpeningFault.{OpeningFault}
use Rattle.undo_run.specs.declared.fault.OpeningFault.TheVariants as opening
use Rattle.undo_run.specs.declared.fault.PartFault.{PartFault}
use Rattle.undo_run.specs.declared.fault.PartFault.TheVariants.{Run, Sums, NoEventAt, NoUnitAt, NoUnitWithGtid, Log, NothingSelected, LaterLog, ChangedSince, UnknownSince, Unmerged, TooLong, NoSchema}

-- ---- what is taken, and what came after

-- What is taken out of a log: a log and a selection that have the groups that are written; what the log changes in steps, from the first
-- selected change on; and the log with its units from there on that aren't selected.
pub record Taken : Type 0 where
  pub log : List ℕ
  pub sel : Selection
  pub steps : List Step
  pub rest : Later

-- a later log, from its first event on
abbrev pub whole_log : NamedLog → Later
whole_log log = record {
  names = one_name log.name;
  handed = handed_log whole_reading log.bytes;
  units = later_units (handed_log whole_reading log.bytes) 0;
  end = (found_of whole_reading log.bytes).end;
  fault = (found_of whole_reading log.bytes).fault;
}

-- the names of those of some tables whose rows are changed
abbrev pub names_of : List TableCount → List Name
names_of counts = map (λ c. record { schema = Some c.table.schema; table = c.table.name }) (filter (λ c. nat_lt 0 (rows_in c)) counts)

-- these tables, as a choice
abbrev pub tables_named : List TableCount → Choice
tables_named counts = record { database = None; tables = names_of counts; excluded = [] }

-- the changes by table, and these tables
abbrev pub counts_taken : Taken → List TableCount
counts_taken t = counts_of (groups t.log t.sel)

abbrev pub tables_taken : Taken → Choice
tables_taken t = tables_named (counts_taken t)

-- the log, and later ones
abbrev pub after : Taken → List NamedLog → List Later
after t logs = t.rest ∷ map whole_log logs

abbrev pub steps_after : Taken → List NamedLog → List Step
steps_after t logs = t.steps ++ map later_step (map whole_log logs)

-- nothing that came later touches what is taken, where that is asked
abbrev pub IsSafe : Taken → List NamedLog → Type 0
IsSafe t logs = AreSafe (steps_after t logs) (tables_taken t) (after t logs)

abbrev pub IsSafeIf : Bool → Taken → List NamedLog → Type 0
IsSafeIf looks t logs = looks ≡ true → IsSafe t logs

-- what is told of what came later
abbrev pub since_told : Bool → Taken → List NamedLog → Option Since
since_told looks t logs = if looks then Some (record {
  units = at_most (length (accepted_units (after t logs)));
  end = last_end None (after t logs);
  next = last_next [] (after t logs);
  apart = at_most (length (places_apart (tables_taken t) (after t logs)));
  first = slice_get (places_apart (tables_taken t) (after t logs)) 0;
}) else None

-- ---- what comes of writing it

-- The later logs, as they were read. None is where what came later isn't looked at.
abbrev pub AreLater : {R : Type 0} → Bool → (R → Option (List ℕ)) → List (GivenLog R) → List NamedLog → Type 0
AreLater true known givens logs = AreRead known givens logs
AreLater false known givens logs = logs ≡ []

-- nothing can be read of the n-th later log
abbrev pub FailsToOpen : {R : Type 0} → (R → Option (List ℕ)) → GivenLog R → OpeningFault → Type 0
FailsToOpen known given (opening.Run run.Read) = ⊤
FailsToOpen known given (opening.Run run.Write) = ⊥
FailsToOpen known given (opening.Run (run.Log f)) = (f ≡ OutOfMemory)
    ⊎ ((f ≡ TooLongLog 0) × ((left : Option (List ℕ)) × PassesLimit greatest_length (known (device_of given.reader)) left))
FailsToOpen known given (opening.Sums f) = (bytes : List ℕ) × ((left : Option (List ℕ)) × ReadsLog (known (device_of given.reader)) left bytes) × (source_refusal bytes ≡ Some f)

abbrev pub FailsLater : {R : Type 0} → (R → Option (List ℕ)) → List (GivenLog R) → ℕ → OpeningFault → Type 0
FailsLater known givens n fault = (given : GivenLog _) × (slice_get givens n ≡ Some given) × FailsToOpen known given fault

-- of later logs that were read
abbrev pub OfLater : {R : Type 0} → Bool → (R → Option (List ℕ)) → List (GivenLog R) → (List NamedLog → Type 0) → Type 0
OfLater looks known givens P = (logs : List NamedLog) × AreLater looks known givens logs × P logs

-- ---- how it is written

-- How what is taken is written, by the later logs as they were read: that nothing that came later keeps it back; the log that has it, and the
-- selection of that; that this is too long; what is told of it; and that nothing is written since so many rows were changed, or may have been, or
-- can't be merged.
pub record Plan : Type 1 where
  pub safe : List NamedLog → Type 0
  pub log : List NamedLog → List ℕ
  pub sel : Selection
  pub long : List NamedLog → Type 0
  pub told : List NamedLog → List ℕ → Type 0
  pub changed : ℕ → List NamedLog → Type 0
  pub unknown : List NamedLog → Type 0
  pub unmerged : List NamedLog → Type 0

-- what is reported of changes of a log, where logs of these names were read
abbrev pub report_taken : Bool → Writing → Names → Taken → List NamedLog → List ℕ → Selection → List ℕ
report_taken looks w names t logs log sel = report w.order names (length (groups log sel)) (counts_of (groups log sel)) (since_told looks t logs)

-- all of it, if nothing that came later touches it, where that is asked
abbrev pub plan_taken : Bool → Writing → Names → Taken → Plan
plan_taken looks w names t = record {
  safe = IsSafeIf looks t;
  log = λ logs. t.log;
  sel = t.sel;
  long = λ logs. IsSafeIf looks t logs × (4294967295 < end_of_text w.sql w.order w.limit t.log t.sel);
  told = λ logs told. told ≡ report_taken looks w names t logs t.log t.sel;
  changed = λ rows logs. (looks ≡ true) × AreChanged (steps_after t logs) rows;
  unknown = λ logs. (looks ≡ true) × MayBeChanged (steps_after t logs) (tables_taken t) (after t logs);
  unmerged = λ logs. ⊥;
}

-- it can be written: nothing keeps it back, and it isn't too long and lacks no schema
abbrev pub CanBe : Writing → Plan → List NamedLog → Type 0
CanBe w p logs = p.safe logs × CanBeWritten w.sql w.order w.limit (p.log logs) p.sel

-- what is written of it
abbrev pub text_planned : Writing → Plan → List NamedLog → List ℕ
text_planned w p logs = text_of w.sql w.order w.limit (p.log logs) p.sel

-- What comes of writing what is taken out of a log, which is sound, or is refused: all of it is written, and this is the report; or a
-- beginning, where a write failed; or nothing.
abbrev pub WritesBy : {A R : Type 0} → Bool → (R → Option (List ℕ)) → List (GivenLog R) → Writing → Plan → Type 0 → (PartFault A → Type 0) → Option (List ℕ) → Option (List ℕ) → Result (Vec ℕ A) (PartFault A) → Type 0
WritesBy looks known givens w p Sound Refuses had has (Ok told) = Sound × OfLater looks known givens
    (λ logs. CanBe w p logs × Appends had has (text_planned w p logs) × p.told logs told.items)
WritesBy looks known givens w p Sound Refuses had has (Err (Run run.Write)) = Sound × OfLater looks known givens
    (λ logs. CanBe w p logs × AppendsBeginning had has (text_planned w p logs))
WritesBy looks known givens w p Sound Refuses had has (Err (Run run.Read)) = ⊥
WritesBy looks known givens w p Sound Refuses had has (Err (Run (run.Log f))) = (f ≡ OutOfMemory) × Keeps had has
WritesBy looks known givens w p Sound Refuses had has (Err TooLong) = ((Sound × OfLater looks known givens p.long) ⊎ Refuses TooLong) × Keeps had has
WritesBy looks known givens w p Sound Refuses had has (Err (NoSchema text)) = (Sound × OfLater looks known givens
    (λ logs. p.safe logs × ((n : ℕ) × (lacks w.sql (groups (p.log logs) p.sel) ≡ Some n)))) × Keeps had has
WritesBy looks known givens w p Sound Refuses had has (Err (LaterLog n f)) = (Sound × (looks ≡ true) × FailsLater known givens n f) × Keeps had has
WritesBy looks known givens w p Sound Refuses had has (Err (ChangedSince rows lines)) = (Sound × OfLater looks known givens (p.changed rows)) × Keeps had has
WritesBy looks known givens w p Sound Refuses had has (Err (UnknownSince lines)) = (Sound × OfLater looks known givens p.unknown) × Keeps had has
WritesBy looks known givens w p Sound Refuses had has (Err (Unmerged lines)) = (Sound × OfLater looks known givens p.unmerged) × Keeps had has
WritesBy looks known givens w p Sound Refuses had has (Err (NoEventAt pos)) = Refuses (NoEventAt pos) × Keeps had has
WritesBy looks known givens w p Sound Refuses had has (Err (NoUnitAt place)) = Refuses (NoUnitAt place) × Keeps had has
WritesBy looks known givens w p Sound Refuses had has (Err (NoUnitWithGtid n)) = Refuses (NoUnitWithGtid n) × Keeps had has
WritesBy looks known givens w p Sound Refuses had has (Err (Sums f)) = Refuses (Sums f) × Keeps had has
WritesBy looks known givens w p Sound Refuses had has (Err (Log f)) = Refuses (Log f) × Keeps had has
WritesBy looks known givens w p Sound Refuses had has (Err NothingSelected) = Refuses NothingSelected × Keeps had has
