-- What a run does to the bytes of its devices. Of a device that does not tell its bytes these definitions say that there
-- are such bytes.
use Rattle.std.specs.Prelude.{◌≡◌, ◌⊎◌, ◌||◌, ◌<◌, ◌-◌, ◌==◌, ℕ, if◌then◌else◌, option_map, is_some, Bool, true, false, List, [], ◌∷◌, length, ⊤, String, Vec, Option, None, Some, Result, Ok, Err, slice_get}
use Rattle.std.specs.Option.{option_map_or}
use Rattle.std.specs.Io.KnownBytes.{Keeps, Appends}
use Rattle.blog_event.specs.declared.fault.Fault.{Fault}
use Rattle.blog_event.specs.declared.fault.Fault.TheVariants.{TooLong, OutOfMemory as NoMemory}
use Rattle.blog_device.specs.Devices.{greatest_length, PassesLimit, ReadsLog, AppendsBeginning}
use Rattle.blog_device.specs.declared.fault.RunFault.TheVariants.{Log, Read, Write}
use Rattle.blog_sum.specs.declared.fault.SumFault.{SumFault}
use Rattle.blog_source.specs.Laws.{whole_reading}
use Rattle.blog_source.specs.Plain.{plain_log}
use Rattle.blog_source.specs.Whole.{reading_fault}
use Rattle.blog_source.specs.Found.{found_of}
use Rattle.blog_source.specs.Handed.{handed_log}
use Rattle.blog_source.specs.code.SourceView.{end_of, log_of}
use Rattle.blog_source.specs.declared.source.Source.{Source}
use Rattle.jiff.specs.Types.{TimeZone}
use Rattle.list_run.specs.Listed.{ListsLogs, MayFollow}
use Rattle.list_run.specs.declared.fault.ListFault.{ListFault}
use Rattle.list_run.specs.declared.given.GivenLog.{GivenLog}
use Rattle.blog_request.specs.declared.wanted.Wanted.{Wanted}
use Rattle.binlog_arguments.specs.Request.{HasPartWriting, HasTask, HasUnits, asks_for_list, asks_for_part}
use Rattle.binlog_arguments.specs.declared.undo_arguments.PartTask.{PartTask}
use Rattle.undo_run.specs.Parts.{IsPlaced}
use Rattle.undo_run.specs.Writes.{ReportsPart, WritesPart}
use Rattle.undo_run.specs.declared.fault.LogsFault.{LogsFault}
use Rattle.undo_run.specs.declared.fault.LogsFault.TheVariants.{Opening, Further, Part}
use Rattle.undo_run.specs.declared.fault.PartFault.TheVariants.{LaterLog, NoUnitWithGtid}
use Rattle.undo_run.specs.declared.request.UnitRequest.{UnitRequest}
use Rattle.binlog_arguments.specs.Zones.{IsZoneOf}
use Rattle.binlog_arguments.specs.declared.list_arguments.ListTask.{ListTask}
use Rattle.binlog_command.specs.declared.commands.Failure.{Failure}
use Rattle.binlog_command.specs.declared.commands.Failure.TheVariants.{NewLog as NoNewLog, List as NoList, Part as NoPart, First as NoFirst, Further as NoFurther, Later as NoLater, NoGtid}
use Rattle.binlog_command.specs.declared.commands.NewLogFault.{NewLogFault}
use Rattle.binlog_command.specs.declared.commands.NewLogFault.TheVariants.{Run, Sums, Split as Cut, NoSchema}
use Rattle.binlog_arguments.specs.declared.arguments.Making.{Making}
use Rattle.binlog_arguments.specs.declared.arguments.Making.TheVariants.{Plain, Changes}
use Rattle.blog_split.specs.declared.fault.SplitFault.{SplitFault}
use Rattle.blog_split.specs.declared.fault.SplitFault.TheVariants.{Log as OfLog, TooLong as TooLongCut}
use Rattle.blog_run.specs.Writing.{CanBeWritten, end_of_text, lacks, text_of}
use Rattle.blog_run.specs.declared.writing.Writing.{Writing}
use Rattle.blog_run.specs.declared.fault.WritingFault.{WritingFault}
use Rattle.blog_run.specs.declared.fault.WritingFault.TheVariants as writing
use Rattle.blog_trans.specs.Acceptance.{IsAccepted, IsRefusal, fault}
use Rattle.blog_trans.specs.Groups.{groups}
use Rattle.blog_trans.specs.Selection.{Selection, all, selection_of}

-- this log was read, and it isn't whole: this is its first fault
abbrev pub RefusesSums : Option (List ℕ) → Option (List ℕ) → SumFault → Type 0
RefusesSums old new fault = (log : List ℕ) × ReadsLog old new log × (reading_fault log ≡ Some fault)

-- the log that a source hands out is refused, or memory was: this is the fault at its place
abbrev pub RefusesHanded : List ℕ → ℕ → Fault → Type 0
RefusesHanded handed end cause = (inner : Fault) × IsRefusal (fault handed all) inner × IsPlaced handed end inner cause

-- what is written of its changes would be too long
abbrev pub WouldBeTooLong : Writing → List ℕ → Type 0
WouldBeTooLong w handed = IsAccepted handed all × (lacks w.sql (groups handed all) ≡ None) × (4294967295 < end_of_text w.sql w.order w.limit handed all)

-- they have no table of a schema that is to have another name, the one of this number
abbrev pub LacksSchema : Writing → List ℕ → ℕ → Type 0
LacksSchema w handed n = IsAccepted handed all × (lacks w.sql (groups handed all) ≡ Some n)

-- this text is what is written of them
abbrev pub IsWrittenOf : Writing → List ℕ → List ℕ → Type 0
IsWrittenOf w handed text = IsAccepted handed all × CanBeWritten w.sql w.order w.limit handed all × (text ≡ text_of w.sql w.order w.limit handed all)

-- what is made of a log, each of whose sums is right: the same without checksums, or what is written of its changes
abbrev pub IsMadeOf : Making → List ℕ → List ℕ → Type 0
IsMadeOf Plain log text = (reading_fault log ≡ None) × (text ≡ plain_log log)
IsMadeOf (Changes w) log text = (reading_fault log ≡ None) × IsWrittenOf w (handed_log whole_reading log) text

-- why its changes aren't written
abbrev pub RefusesWriting : Writing → List ℕ → ℕ → SplitFault → Type 0
RefusesWriting w handed end (OfLog cause) = RefusesHanded handed end cause
RefusesWriting w handed end TooLongCut = WouldBeTooLong w handed

-- why no new log is made of a log, each of whose sums is right
abbrev pub RefusesNewLog : Making → List ℕ → SplitFault → Type 0
RefusesNewLog Plain log fault = ⊥
RefusesNewLog (Changes w) log fault = (reading_fault log ≡ None) × RefusesWriting w (handed_log whole_reading log) (found_of whole_reading log).end fault

-- a log, each of whose sums is right, changes no table of a schema that is to have another name
abbrev pub RefusesSchemas : Making → List ℕ → Type 0
RefusesSchemas Plain log = ⊥
RefusesSchemas (Changes w) log = (reading_fault log ≡ None) × ((n : ℕ) × LacksSchema w (handed_log whole_reading log) n)

-- what comes of reading a log and opening it as a source: a source that is whole; or that it can't be held, that a read failed,
-- or that it isn't whole
abbrev pub OpensWhole : {A : Type 0} → Option (List ℕ) → Option (List ℕ) → Result (Source A) (NewLogFault A) → Type 0
OpensWhole old new (Ok source) = (log : List ℕ) × ReadsLog old new log × (reading_fault log ≡ None) × (log_of source ≡ handed_log whole_reading log) × (end_of source ≡ (found_of whole_reading log).end)
OpensWhole old new (Err (Run (Log fault))) = (fault ≡ NoMemory) ⊎ ((fault ≡ TooLong 0) × PassesLimit greatest_length old new)
OpensWhole old new (Err (Run Read)) = ⊤
OpensWhole old new (Err (Run Write)) = ⊥
OpensWhole old new (Err (Sums fault)) = RefusesSums old new fault
OpensWhole old new (Err (Cut fault)) = ⊥
OpensWhole old new (Err (NoSchema text)) = ⊥

-- what comes of writing the changes of the log that a source hands out
abbrev pub WritesSource : Writing → List ℕ → ℕ → Option (List ℕ) → Option (List ℕ) → Result Unit WritingFault → Type 0
WritesSource w handed end had has (Ok done) = (text : List ℕ) × IsWrittenOf w handed text × Appends had has text
WritesSource w handed end had has (Err (writing.Log cause)) = RefusesHanded handed end cause
WritesSource w handed end had has (Err writing.TooLong) = WouldBeTooLong w handed
WritesSource w handed end had has (Err (writing.NoSchema n)) = LacksSchema w handed n
WritesSource w handed end had has (Err writing.Write) = (text : List ℕ) × IsWrittenOf w handed text × AppendsBeginning had has text

-- what comes of making a new log of the log that is read, and writing it: the whole new log is written, or a beginning of it
-- where a write failed, or nothing
abbrev pub WritesNewLog : {A : Type 0} → Making → Option (List ℕ) → Option (List ℕ) → Option (List ℕ) → Option (List ℕ) → Result Unit (NewLogFault A) → Type 0
WritesNewLog making old new had has (Ok done) = (log text : List ℕ) × ReadsLog old new log × IsMadeOf making log text × Appends had has text
WritesNewLog making old new had has (Err (Run (Log fault))) = ((fault ≡ NoMemory) ⊎ ((fault ≡ TooLong 0) × PassesLimit greatest_length old new)) × Keeps had has
WritesNewLog making old new had has (Err (Run Read)) = Keeps had has
WritesNewLog making old new had has (Err (Run Write)) = (log text : List ℕ) × ReadsLog old new log × IsMadeOf making log text × AppendsBeginning had has text
WritesNewLog making old new had has (Err (Sums fault)) = RefusesSums old new fault × Keeps had has
WritesNewLog making old new had has (Err (Cut fault)) = (log : List ℕ) × ReadsLog old new log × RefusesNewLog making log fault × Keeps had has
WritesNewLog making old new had has (Err (NoSchema text)) = (log : List ℕ) × ReadsLog old new log × RefusesSchemas making log × Keeps had has

-- the outcome is that of making and writing a new log, of which this holds
abbrev pub OfNewLog : {A : Type 0} → (Result Unit (NewLogFault A) → Type 0) → Result Unit (Failure A) → Type 0
OfNewLog P (Ok done) = P (Ok done)
OfNewLog P (Err (NoNewLog fault)) = P (Err fault)
OfNewLog P (Err failure) = ⊥

-- the answer is that a read failed
abbrev pub is_failed_read : {A X : Type 0} → Result X (NewLogFault A) → Bool
is_failed_read (Ok x) = false
is_failed_read (Err (Run (Log fault))) = false
is_failed_read (Err (Run Read)) = true
is_failed_read (Err (Run Write)) = false
is_failed_read (Err (Sums fault)) = false
is_failed_read (Err (Cut fault)) = false
is_failed_read (Err (NoSchema text)) = false

-- the answer is that a write failed
abbrev pub is_failed_write : {A X : Type 0} → Result X (NewLogFault A) → Bool
is_failed_write (Ok x) = false
is_failed_write (Err (Run (Log fault))) = false
is_failed_write (Err (Run Read)) = false
is_failed_write (Err (Run Write)) = true
is_failed_write (Err (Sums fault)) = false
is_failed_write (Err (Cut fault)) = false
is_failed_write (Err (NoSchema text)) = false

-- ---- parts of logs

-- the arguments ask for `list`, `undo` or `redo`, where there are any
abbrev pub may_report : {A B E : Type 0} → Result (Vec (String A) B) E → Bool
may_report (Ok arguments) = asks_for_list arguments.items || asks_for_part arguments.items
may_report (Err error) = false

-- the path of the log of a number, from 0 on; and where there are several
abbrev pub log_path : {A : Type 0} → PartTask A → ℕ → List ℕ
log_path task n = if n == 0 then task.sql.log.now else option_map_or (λ path. path.now) (slice_get task.further.items (n - 1)) task.sql.log.now

abbrev pub shown_beside : {X : Type 0} → List X → List ℕ → Option (List ℕ)
shown_beside [] path = None
shown_beside (x ∷ xs) path = Some path

abbrev pub shown_path : {A : Type 0} → PartTask A → ℕ → Option (List ℕ)
shown_path task n = shown_beside task.further.items (log_path task n)

-- a run fails with this fault of its part: in place of the number of a log it has its path, and in place of that of a global transaction id its
-- text
abbrev pub IsFailureOf : {A : Type 0} → PartTask A → LogsFault A → Failure A → Type 0
IsFailureOf task fault (NoPart path same) = (n : ℕ) × (fault ≡ Part n same) × (option_map (λ p. p.now) path ≡ shown_path task n)
IsFailureOf task fault (NoFirst path cause) = (fault ≡ Opening cause) × (option_map (λ p. p.now) path ≡ shown_path task 0)
IsFailureOf task fault (NoFurther path before cause) = (n : ℕ) × (fault ≡ Further n cause) × (path.now ≡ log_path task n) × (before.now ≡ log_path task (n - 1))
IsFailureOf task fault (NoLater path cause) = (n k : ℕ) × (slice_get task.later.items n ≡ Some path) × (fault ≡ Part k (LaterLog n cause))
IsFailureOf task fault (NoGtid text) = (n k : ℕ) × (slice_get task.units.gtid_texts.items n ≡ Some text) × (fault ≡ Part k (NoUnitWithGtid n))
IsFailureOf task fault failure = ⊥

-- the outcome is that of writing a part of a log, of which this holds
abbrev pub OfTold : {A : Type 0} → PartTask A → (Result (Vec ℕ A) (LogsFault A) → Type 0) → Result (Vec ℕ A) (Failure A) → Type 0
OfTold task P (Ok told) = P (Ok told)
OfTold task P (Err failure) = (fault : LogsFault _) × IsFailureOf task fault failure × P (Err fault)

-- the same of an outcome without a report
abbrev pub OfPart : {A : Type 0} → PartTask A → (Result (Vec ℕ A) (LogsFault A) → Type 0) → Result Unit (Failure A) → Type 0
OfPart task P (Ok done) = (told : Vec ℕ _) × P (Ok told)
OfPart task P (Err failure) = OfTold task P (Err failure)

-- a part of some tables
abbrev pub is_of_tables : Selection → Bool
is_of_tables part = is_some part.database || is_some part.table

-- Of some tables each unit is asked for, so that statements that name none of these are passed over; and so it is where rows may be left as they are,
-- or merged.
abbrev pub asks_for_each : {A : Type 0} → PartTask A → Bool
asks_for_each task = (task.leaves || task.merges) || is_of_tables (selection_of task.part)

-- which units are asked for; None where all of them are, with all tables and rows
abbrev pub HasRequest : {A : Type 0} → PartTask A → Option UnitRequest → Type 0
HasRequest task None = HasUnits (asks_for_each task) task.units None
HasRequest task (Some asked) = HasUnits (asks_for_each task) task.units (Some asked.wanted) × (asked.at.now ≡ task.units.at.items) × (asked.leaves ≡ task.leaves) × (asked.merges ≡ task.merges)

-- a task's part is written, or the chosen transactions of that, as it is written at this time
abbrev pub WritesTask : {A R : Type 0} → (R → Option (List ℕ)) → List (GivenLog R) → List (GivenLog R) → PartTask A → ℕ → Option (List ℕ) → Option (List ℕ) → Option (List ℕ) → Option (List ℕ) → Result Unit (Failure A) → Type 0
WritesTask known givens further task now old new had has result = (how : Writing) × HasPartWriting task now how × ((asked : Option UnitRequest) × HasRequest task asked
    × OfPart task (WritesPart task.looks known givens how task.sql.log.now further (selection_of task.part) asked old new had has) result)

-- this is reported of it, of the log that was read
abbrev pub IsToldOf : {A R : Type 0} → (R → Option (List ℕ)) → List (GivenLog R) → List (GivenLog R) → Writing → PartTask A → Option UnitRequest → Option (List ℕ) → Option (List ℕ) → List ℕ → Type 0
IsToldOf known givens further how task asked old new told = ReportsPart task.looks known givens how task.sql.log.now further (selection_of task.part) asked old new told

-- and it is written
abbrev pub TellsPart : {A R : Type 0} → (R → Option (List ℕ)) → List (GivenLog R) → List (GivenLog R) → PartTask A → ℕ → Option (List ℕ) → Option (List ℕ) → Option (List ℕ) → Option (List ℕ) → Type 0
TellsPart known givens further task now old new had has = (how : Writing) × HasPartWriting task now how × ((asked : Option UnitRequest) × HasRequest task asked
    × ((told : List ℕ) × IsToldOf known givens further how task asked old new told × Appends had has told))

-- ---- lists

-- the arguments ask for a list, where there are any
abbrev pub may_list : {A B E : Type 0} → Result (Vec (String A) B) E → Bool
may_list (Ok arguments) = asks_for_list arguments.items
may_list (Err error) = false

-- the list of given logs that a task asks for comes to this
abbrev pub ListsGiven : {A R : Type 0} → (R → Option (List ℕ)) → ListTask A → List (GivenLog R) → Option (List ℕ) → Option (List ℕ) → Result Unit (ℕ × ListFault) → Type 0
ListsGiven known task givens had has listed = (wanted : Wanted) × HasTask task wanted × ((zone : TimeZone) × IsZoneOf task.zone zone
    × (0 < length givens → ListsLogs known task.form zone task.show_gtids (record { how = task.reading; wanted = wanted; sorting = task.sorting; count = length givens }) givens had has listed))

-- a part of a list, or all of it, may be written before this failure
abbrev pub MayFollowList : {A : Type 0} → Failure A → Type 0
MayFollowList (NoList None fault) = MayFollow fault
MayFollowList (NoList (Some path) fault) = ⊤
MayFollowList failure = ⊥

-- the outcome is that of a list, of which this holds
abbrev pub OfList : {A : Type 0} → (Result Unit (ℕ × ListFault) → Type 0) → Result Unit (Failure A) → Type 0
OfList P (Ok done) = P (Ok done)
OfList P (Err (NoList path fault)) = (n : ℕ) × P (Err (n, fault))
OfList P (Err failure) = ⊥
