-- What comes of reading logs, and writing a part of them, or units of that.
use Rattle.std.specs.Prelude.{◌≡◌, ◌⊎◌, ⊤, ℕ, ◌+◌, Bool, true, false, ◌&&◌, List, ◌∷◌, ◌++◌, length, Option, Some, None, option_map, Vec, Result, Ok, Err}
use Rattle.std.specs.Option.{option_map_or}
use Rattle.std.specs.Io.KnownBytes.{Keeps}
use Rattle.blog_device.specs.Devices.{PassesLimit, ReadsLog, greatest_length}
use Rattle.blog_device.specs.declared.fault.RunFault.TheVariants as run
use Rattle.blog_event.specs.declared.fault.Fault.TheVariants.{OutOfMemory, TooLong as TooLongLog}
use Rattle.blog_event.specs.declared.fault.Fault.{Fault}
use Rattle.blog_event.specs.Fault.{name_of, position_of as fault_position}
use Rattle.blog_run.specs.declared.writing.Writing.{Writing}
use Rattle.blog_source.specs.Appended.{AreShort, are_of_one_server, is_older}
use Rattle.blog_source.specs.Found.{found_of, source_refusal}
use Rattle.blog_source.specs.Handed.{handed_log}
use Rattle.blog_sum.specs.declared.fault.SumFault.{SumFault}
use Rattle.blog_trans.specs.Selection.{Selection}
use Rattle.list_run.specs.Listed.{AreRead, IsRead, NamedLog}
use Rattle.list_run.specs.declared.given.GivenLog.{GivenLog}
use Rattle.undo_run.specs.Leaving.{plan_left}
use Rattle.undo_run.specs.Merging.{plan_merged}
use Rattle.undo_run.specs.Parts.{IsSound, Refuses, damage_before, part_taken, reading_of}
use Rattle.undo_run.specs.Several.{CanJoinAll, Joined, Names, OfLogs, alone, joined_on, located, part_among, reading_to, starts_in_first}
use Rattle.undo_run.specs.Taken.{CanBe, FailsToOpen, OfLater, Plan, Taken, WritesBy, plan_taken}
use Rattle.undo_run.specs.Units.{AreSoundUnits, RefusesUnits, damage_among, units_taken}
use Rattle.undo_run.specs.declared.fault.FurtherFault.{FurtherFault}
use Rattle.undo_run.specs.declared.fault.FurtherFault.TheVariants as further
use Rattle.undo_run.specs.declared.fault.LogsFault.{LogsFault}
use Rattle.undo_run.specs.declared.fault.LogsFault.TheVariants.{Opening, Further, Part}
use Rattle.undo_run.specs.declared.fault.OpeningFault.{OpeningFault}
use Rattle.undo_run.specs.declared.fault.OpeningFault.TheVariants as opening
use Rattle.undo_run.specs.declared.fault.PartFault.{PartFault}
use Rattle.undo_run.specs.declared.fault.PartFault.TheVariants.{Run, Sums, Log, NoEventAt, NoUnitAt}
use Rattle.undo_run.specs.declared.request.UnitRequest.{UnitRequest}

-- what is taken of a part, or of its asked units; it is sound, or refused
abbrev pub taken_in : Bool → Option UnitRequest → Names → Selection → List ℕ → ℕ → Option SumFault → Taken
taken_in looks None names part handed end fault = part_taken names part handed end fault
taken_in looks (Some r) names part handed end fault = units_taken r names part handed end fault

abbrev pub IsSoundIn : Bool → Option UnitRequest → Selection → List ℕ → ℕ → Option SumFault → Type 0
IsSoundIn looks None part handed end fault = IsSound part handed end (damage_before looks part end fault)
IsSoundIn looks (Some r) part handed end fault = AreSoundUnits r part handed end (damage_among looks part end fault)

abbrev pub RefusesIn : {A : Type 0} → Bool → Option UnitRequest → Selection → List ℕ → ℕ → Option SumFault → PartFault A → Type 0
RefusesIn looks None part handed end fault cause = Refuses part handed end (damage_before looks part end fault) cause
RefusesIn looks (Some r) part handed end fault cause = RefusesUnits r part handed end fault (damage_among looks part end fault) cause

-- How it is written: where that is asked, with what rows that were changed since are updated to, as some log; or without these rows.
abbrev pub plan_by : Bool → Bool → Bool → Writing → Names → Taken → List ℕ → Plan
plan_by true leaves looks w names t log = plan_merged w names t log
plan_by false true looks w names t log = plan_left w names t
plan_by false false looks w names t log = plan_taken looks w names t

abbrev pub merges_rows : Bool → Option UnitRequest → Bool
merges_rows looks None = false
merges_rows looks (Some r) = looks && r.merges

abbrev pub leaves_rows : Bool → Option UnitRequest → Bool
leaves_rows looks None = false
leaves_rows looks (Some r) = looks && r.leaves

abbrev pub plan_in : Bool → Writing → Option UnitRequest → Names → Selection → List ℕ → ℕ → Option SumFault → List ℕ → Plan
plan_in looks w asked names part handed end fault log = plan_by (merges_rows looks asked) (leaves_rows looks asked) looks w names (taken_in looks asked names part handed end fault) log

-- what comes of writing it
abbrev pub WritesHanded : {A R : Type 0} → Bool → (R → Option (List ℕ)) → List (GivenLog R) → Writing → Names → Selection → Option UnitRequest → List ℕ → ℕ → Option SumFault → Option (List ℕ) → Option (List ℕ) → Result (Vec ℕ A) (PartFault A) → Type 0
WritesHanded looks known givens w names part asked handed end fault had has result = (log : List ℕ) × WritesBy looks known givens w (plan_in looks w asked names part handed end fault log)
    (IsSoundIn looks asked part handed end fault) (RefusesIn looks asked part handed end fault) had has result

-- ---- of logs that are read as one

-- nothing can be read of the first
abbrev pub FailsFirst : Option (List ℕ) → Option (List ℕ) → OpeningFault → Type 0
FailsFirst old new (opening.Run run.Read) = ⊤
FailsFirst old new (opening.Run run.Write) = ⊥
FailsFirst old new (opening.Run (run.Log f)) = (f ≡ OutOfMemory) ⊎ ((f ≡ TooLongLog 0) × PassesLimit greatest_length old new)
FailsFirst old new (opening.Sums f) = (bytes : List ℕ) × ReadsLog old new bytes × (source_refusal bytes ≡ Some f)

-- One more isn't read: it isn't opened, or memory was refused; the one before it is damaged; it is of another server; it is older than the one
-- before it; or the logs are too long.
abbrev pub FailsToJoin : {R : Type 0} → (R → Option (List ℕ)) → Joined → GivenLog R → FurtherFault → Type 0
FailsToJoin known j given (further.Opening f) = FailsToOpen known given f
FailsToJoin known j given (further.Damaged f) = j.fault ≡ Some f
FailsToJoin known j given further.OtherServer = (stop : Option ℕ) × (log : NamedLog) × IsRead known given log × (are_of_one_server j.handed (handed_log (reading_to stop) log.bytes) ≡ false)
FailsToJoin known j given further.OutOfOrder = (stop : Option ℕ) × (log : NamedLog) × IsRead known given log × (is_older (handed_log (reading_to stop) log.bytes) j.time ≡ true)
FailsToJoin known j given further.TooLong = (stop : Option ℕ) × (log : NamedLog) × IsRead known given log
    × (AreShort j.handed j.end (handed_log (reading_to stop) log.bytes) (found_of (reading_to stop) log.bytes).end → ⊥)

-- of further logs this is the first that isn't, by its number from 1 on
abbrev pub FailsFurther : {R : Type 0} → (R → Option (List ℕ)) → Joined → List (GivenLog R) → ℕ → FurtherFault → Type 0
FailsFurther known j givens n cause = (before later : List (GivenLog _)) × (given : GivenLog _) × (before ++ given ∷ later ≡ givens) × (n ≡ 1 + length before)
    × ((logs : List NamedLog) × AreRead known before logs × CanJoinAll j logs × FailsToJoin known (joined_on j logs) given cause)

abbrev pub FailsAmong : {R : Type 0} → (R → Option (List ℕ)) → List ℕ → List (GivenLog R) → Option (List ℕ) → Option (List ℕ) → ℕ → FurtherFault → Type 0
FailsAmong known name givens old new n cause =
    (bytes : List ℕ) × ReadsLog old new bytes × (source_refusal bytes ≡ None) × FailsFurther known (alone None (record { name = name; bytes = bytes })) givens n cause

-- A fault of the logs as one, by its log: this has a number, and the fault its place there. Damage is that of the last log, and has its place
-- there.
abbrev pub IsLocated : {A : Type 0} → Names → PartFault A → ℕ → PartFault A → Type 0
IsLocated names (Log f) n cause = (g : Fault) × (cause ≡ Log g) × (name_of g ≡ name_of f) × (fault_position g ≡ option_map (λ place. (located names place).at) (fault_position f))
    × (n ≡ option_map_or (λ place. (located names place).number) (fault_position f) 0)
IsLocated names (Sums f) n cause = (cause ≡ Sums f) × (n ≡ length names.more)
IsLocated names (NoUnitAt place) n cause = (cause ≡ NoUnitAt (located names place).at) × (n ≡ (located names place).number)
IsLocated names same n cause = (cause ≡ same) × (n ≡ 0)

abbrev pub IsLocatedIn : {A : Type 0} → Names → PartFault A → LogsFault A → Type 0
IsLocatedIn names inner (Part n cause) = IsLocated names inner n cause
IsLocatedIn names inner fault = ⊥

-- what comes of writing a part of logs that were read
abbrev pub WritesJoined : {A R : Type 0} → Bool → (R → Option (List ℕ)) → List (GivenLog R) → Writing → Selection → Option UnitRequest → Option (List ℕ) → Option (List ℕ) → Joined → Result (Vec ℕ A) (PartFault A) → Type 0
WritesJoined looks known later w part asked had has j result = WritesHanded looks known later w j.names (part_among j.names part) asked j.handed j.end j.fault had has result

-- it isn't written: its start isn't in the first log, or it fails
abbrev pub FailsJoined : {A R : Type 0} → Bool → (R → Option (List ℕ)) → List (GivenLog R) → Writing → Selection → Option UnitRequest → Option (List ℕ) → Option (List ℕ) → ℕ → PartFault A → Joined → Type 0
FailsJoined looks known later w part asked had has n cause j = ((starts_in_first j.names.more part.start ≡ false) × (n ≡ 0) × (cause ≡ NoEventAt part.start) × Keeps had has)
    ⊎ ((starts_in_first j.names.more part.start ≡ true) × ((inner : PartFault _) × IsLocated j.names inner n cause × WritesJoined looks known later w part asked had has j (Err inner)))

-- What comes of reading logs and writing a part of them, or units of that.
abbrev pub WritesPart : {A R : Type 0} → Bool → (R → Option (List ℕ)) → List (GivenLog R) → Writing → List ℕ → List (GivenLog R) → Selection → Option UnitRequest → Option (List ℕ) → Option (List ℕ) → Option (List ℕ) → Option (List ℕ) → Result (Vec ℕ A) (LogsFault A) → Type 0
WritesPart looks known later w name more part asked old new had has (Ok told) = OfLogs known (reading_of looks asked part).stop name more old new
    (λ j. (starts_in_first j.names.more part.start ≡ true) × WritesJoined looks known later w part asked had has j (Ok told))
WritesPart looks known later w name more part asked old new had has (Err (Opening f)) = FailsFirst old new f × Keeps had has
WritesPart looks known later w name more part asked old new had has (Err (Further n cause)) = FailsAmong known name more old new n cause × Keeps had has
WritesPart looks known later w name more part asked old new had has (Err (Part n cause)) = ((cause ≡ Run (run.Log OutOfMemory)) × Keeps had has)
    ⊎ OfLogs known (reading_of looks asked part).stop name more old new (FailsJoined looks known later w part asked had has n cause)

-- the answer is that a write failed, or that a read of the first log did
abbrev pub is_failed_write : {A X : Type 0} → Result X (PartFault A) → Bool
is_failed_write (Err (Run run.Write)) = true
is_failed_write _ = false

abbrev pub has_failed_write : {A X : Type 0} → Result X (LogsFault A) → Bool
has_failed_write (Err (Part n (Run run.Write))) = true
has_failed_write _ = false

abbrev pub has_failed_read : {A X : Type 0} → Result X (LogsFault A) → Bool
has_failed_read (Err (Opening (opening.Run run.Read))) = true
has_failed_read _ = false

-- this is told of what a plan writes, which can be written
abbrev pub IsToldBy : Writing → Plan → List NamedLog → List ℕ → Type 0
IsToldBy w plan logs told = CanBe w plan logs × plan.told logs told

-- this is the report of it, which can be written
abbrev pub ReportsPart : {R : Type 0} → Bool → (R → Option (List ℕ)) → List (GivenLog R) → Writing → List ℕ → List (GivenLog R) → Selection → Option UnitRequest → Option (List ℕ) → Option (List ℕ) → List ℕ → Type 0
ReportsPart looks known later w name more part asked old new told = OfLogs known (reading_of looks asked part).stop name more old new (λ j.
    let inside = part_among j.names part in
    (starts_in_first j.names.more part.start ≡ true) × IsSoundIn looks asked inside j.handed j.end j.fault
    × ((log : List ℕ) × OfLater looks known later (λ logs. IsToldBy w (plan_in looks w asked j.names inside j.handed j.end j.fault log) logs told)))
