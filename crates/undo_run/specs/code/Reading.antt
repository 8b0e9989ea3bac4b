-- What comes of reading several logs as one.
use Rattle.std.specs.Prelude.{◌≡◌, ℕ, Bool, true, false, List, Option, None, Result, Ok, Err}
use Rattle.blog_device.specs.Devices.{ReadsLog}
use Rattle.blog_device.specs.declared.fault.RunFault.TheVariants as run
use Rattle.blog_event.specs.Opening.{opening_fault}
use Rattle.blog_event.specs.declared.fault.Fault.TheVariants.{OutOfMemory}
use Rattle.blog_source.specs.Found.{source_refusal}
use Rattle.blog_source.specs.code.SourceView.{end_of, fault_of, log_of, time_of}
use Rattle.blog_source.specs.declared.append.AppendFault.{AppendFault}
use Rattle.blog_source.specs.declared.append.AppendFault.TheVariants as append
use Rattle.list_run.specs.Listed.{AreRead, IsRead, NamedLog}
use Rattle.list_run.specs.declared.given.GivenLog.{GivenLog}
use Rattle.undo_run.specs.Several.{CanJoin, CanJoinAll, Joined, OfLogs, alone, join, joined_on, reading_to}
use Rattle.undo_run.specs.Writes.{FailsAmong, FailsFurther, FailsToJoin}
use Rattle.undo_run.specs.code.NamesView.{names_told}
use Rattle.undo_run.specs.code.Steps.{OpensLog}
use Rattle.undo_run.specs.declared.fault.FurtherFault.{FurtherFault}
use Rattle.undo_run.specs.declared.fault.FurtherFault.TheVariants as further
use Rattle.undo_run.specs.declared.fault.LogsFault.{LogsFault}
use Rattle.undo_run.specs.declared.fault.LogsFault.TheVariants.{Opening, Further, Part}
use Rattle.undo_run.specs.declared.fault.OpeningFault.TheVariants as opening
use Rattle.undo_run.specs.declared.fault.PartFault.TheVariants.{Run}
use Rattle.undo_run.specs.declared.several.Logs.{Logs}

-- logs that were read as one, as a value; and they open
abbrev pub joined_told : {A : Type 0} → Logs A → Joined
joined_told logs = record { names = names_told logs.names; handed = log_of logs.source; end = end_of logs.source; fault = fault_of logs.source; time = time_of logs.source }

pub record IsJoined {A : Type 0} (j : Joined) (logs : Logs A) : Type 0 where
  pub is : joined_told logs ≡ j
  pub opens : opening_fault (log_of logs.source) ≡ None

-- why a further log isn't appended
abbrev pub further_cause : AppendFault → FurtherFault
further_cause (append.Damaged f) = further.Damaged f
further_cause append.OtherServer = further.OtherServer
further_cause append.OutOfOrder = further.OutOfOrder
further_cause append.TooLong = further.TooLong
further_cause append.OutOfMemory = further.Opening (opening.Run (run.Log OutOfMemory))

-- what comes of one more
abbrev pub Appends : {A R : Type 0} → (R → Option (List ℕ)) → Option ℕ → Joined → ℕ → GivenLog R → Result (Logs A) (LogsFault A) → Type 0
Appends known stop j n given (Ok logs) = (log : NamedLog) × IsRead known given log × CanJoin stop j log × IsJoined (join stop j log) logs
Appends known stop j n given (Err (Further k cause)) = (k ≡ n) × FailsToJoin known j given cause
Appends known stop j n given (Err (Part k (Run (run.Log f)))) = (k ≡ 0) × (f ≡ OutOfMemory)
Appends known stop j n given (Err fault) = ⊥

-- of several, each to its end
abbrev pub AppendsAll : {A R : Type 0} → (R → Option (List ℕ)) → Joined → List (GivenLog R) → Result (Logs A) (LogsFault A) → Type 0
AppendsAll known j givens (Ok logs) = (read : List NamedLog) × AreRead known givens read × CanJoinAll j read × IsJoined (joined_on j read) logs
AppendsAll known j givens (Err (Further n cause)) = FailsFurther known j givens n cause
AppendsAll known j givens (Err (Part k (Run (run.Log f)))) = (k ≡ 0) × (f ≡ OutOfMemory)
AppendsAll known j givens (Err fault) = ⊥

-- of the first
abbrev pub OpensFirst : {A : Type 0} → Option ℕ → List ℕ → Option (List ℕ) → Option (List ℕ) → Result (Logs A) (LogsFault A) → Type 0
OpensFirst stop name old new (Ok logs) = (bytes : List ℕ) × ReadsLog old new bytes × (source_refusal bytes ≡ None) × IsJoined (alone stop (record { name = name; bytes = bytes })) logs
OpensFirst {A = A} stop name old new (Err (Opening f)) = OpensLog {A = A} (reading_to stop) old new (Err f)
OpensFirst stop name old new (Err fault) = ⊥

-- of all
abbrev pub OpensLogs : {A R : Type 0} → (R → Option (List ℕ)) → Option ℕ → List ℕ → List (GivenLog R) → Option (List ℕ) → Option (List ℕ) → Result (Logs A) (LogsFault A) → Type 0
OpensLogs known stop name givens old new (Ok logs) = OfLogs known stop name givens old new (λ j. IsJoined j logs)
OpensLogs {A = A} known stop name givens old new (Err (Opening f)) = OpensLog {A = A} (reading_to None) old new (Err f)
OpensLogs known stop name givens old new (Err (Further n cause)) = FailsAmong known name givens old new n cause
OpensLogs known stop name givens old new (Err (Part k (Run (run.Log f)))) = (k ≡ 0) × (f ≡ OutOfMemory)
OpensLogs known stop name givens old new (Err fault) = ⊥

-- the answer is that a read of the first failed
abbrev pub is_failed_reading : {A X : Type 0} → Result X (LogsFault A) → Bool
is_failed_reading (Err (Opening (opening.Run run.Read))) = true
is_failed_reading _ = false
