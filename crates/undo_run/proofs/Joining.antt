-- Further logs, each of which is read behind those before it.
use Rattle.std.proofs.Common.{◌≡◌, ℕ, ◌+◌, List, [], ◌∷◌, ◌++◌, length, true, false, Result, Ok, Err, Option, None, refl, sym, ap, subst, ◌∙◌, inl, inr, arith, append_assoc, length-append}
use Rattle.blog_device.specs.Devices.{ReadsLog}
use Rattle.blog_device.specs.Watched.{device_of}
use Rattle.blog_device.specs.declared.fault.RunFault.TheVariants as run
use Rattle.blog_event.specs.Opening.{opening_fault}
use Rattle.blog_event.specs.declared.fault.Fault.TheVariants.{OutOfMemory}
use Rattle.blog_source.specs.Appended.{AreShort, appended, are_of_one_server, format_time, is_older}
use Rattle.blog_source.specs.Found.{found_of, source_refusal}
use Rattle.blog_source.specs.Handed.{handed_log}
use Rattle.blog_source.specs.code.Appending.{RefusesFurther}
use Rattle.blog_source.specs.code.SourceView.{end_of, fault_of, log_of, time_of}
use Rattle.blog_source.specs.declared.append.AppendFault.{AppendFault}
use Rattle.blog_source.specs.declared.append.AppendFault.TheVariants as append
use Rattle.blog_source.specs.declared.source.Source.{Source}
use Rattle.list_run.proofs.Going.{read-more}
use Rattle.list_run.specs.Listed.{AreRead, NamedLog}
use Rattle.list_run.specs.declared.given.GivenLog.{GivenLog}
use Rattle.undo_run.specs.Several.{CanJoin, CanJoinAll, Joined, OfLogs, alone, join, joined_on, one_name, reading_to, with_name}
use Rattle.undo_run.specs.Writes.{FailsToJoin}
use Rattle.undo_run.specs.code.NamesView.{names_told}
use Rattle.undo_run.specs.code.Reading.{Appends, AppendsAll, IsJoined, OpensFirst, OpensLogs, further_cause, is_failed_reading, joined_told}
use Rattle.undo_run.specs.code.Steps.{OpensLog}
use Rattle.undo_run.specs.declared.fault.FurtherFault.{FurtherFault}
use Rattle.undo_run.specs.declared.fault.FurtherFault.TheVariants as further
use Rattle.undo_run.specs.declared.fault.LogsFault.{LogsFault}
use Rattle.undo_run.specs.declared.fault.LogsFault.TheVariants.{Opening, Further, Part}
use Rattle.undo_run.specs.declared.fault.OpeningFault.{OpeningFault}
use Rattle.undo_run.specs.declared.fault.PartFault.TheVariants.{Run, Sums, NoEventAt, NoUnitAt, NoUnitWithGtid, Log, NothingSelected, LaterLog, ChangedSince, UnknownSince, Unmerged, TooLong, NoSchema}
use Rattle.undo_run.specs.declared.several.Logs.{Logs}
use Rattle.undo_run.proofs.InTurn.{not-opened}

-- those so far were read
pub record AreJoining {A R : Type 0} (known : R → Option (List ℕ)) (j : Joined) (givens : List (GivenLog R)) (logs : Logs A) : Type 0 where
  pub are : List NamedLog
  pub read : AreRead known givens are
  pub can : CanJoinAll j are
  pub joined : IsJoined (joined_on j are) logs

pub none-joined : {A R : Type 0} (known : R → Option (List ℕ)) (j : Joined) (logs : Logs A) → IsJoined j logs → AreJoining known j [] logs
none-joined known j logs is = record { are = []; read = tt; can = tt; joined = is }

-- one more
joined-more : (j : Joined) (logs : List NamedLog) (log : NamedLog) → joined_on j (logs ++ log ∷ []) ≡ join None (joined_on j logs) log
joined-more j [] log = refl
joined-more j (l ∷ ls) log = joined-more (join None j l) ls log

can-more : (j : Joined) (logs : List NamedLog) (log : NamedLog) → CanJoinAll j logs → CanJoin None (joined_on j logs) log → CanJoinAll j (logs ++ log ∷ [])
can-more j [] log can one = (one, tt)
can-more j (l ∷ ls) log (can, more) one = (can, can-more (join None j l) ls log more one)

pub joins-on : (A : Type 0) {R : Type 0} (known : R → Option (List ℕ)) (j : Joined) (givens : List (GivenLog R)) (given : GivenLog R) (n : ℕ) (old new : Logs A) → (a : AreJoining known j givens old)
    → Appends {A = A} known None (joined_on j a.are) n given (Ok new) → AreJoining known j (givens ++ given ∷ []) new
joins-on A known j givens given n old new a (log, read, can, joined) = record {
  are = a.are ++ log ∷ [];
  read = read-more known givens a.are given log a.read read;
  can = can-more j a.are log a.can can;
  joined = subst (λ (k : Joined). IsJoined k new) (sym (joined-more j a.are log)) joined;
}

pub all-joined : (A : Type 0) {R : Type 0} (known : R → Option (List ℕ)) (j : Joined) (givens all : List (GivenLog R)) (logs : Logs A) → givens ≡ all → AreJoining known j givens logs
    → AppendsAll {A = A} known j all (Ok logs)
all-joined A known j givens all logs is a = (a.are, subst (λ (gs : List (GivenLog _)). AreRead known gs a.are) is a.read, a.can, a.joined)

-- the first that isn't read
pub stops-joining : {A R : Type 0} (known : R → Option (List ℕ)) (j : Joined) (givens rest all : List (GivenLog R)) (given : GivenLog R) (n : ℕ) (old : Logs A) (fault : LogsFault A)
    → givens ++ given ∷ rest ≡ all → n ≡ 1 + length givens → (a : AreJoining known j givens old) → Appends known None (joined_on j a.are) n given (Err fault) → AppendsAll known j all (Err fault)
stops-joining known j givens rest all given n old (Further k cause) split number a (same, fails) = (givens, rest, given, split, same ∙ number, (a.are, a.read, a.can, fails))
stops-joining known j givens rest all given n old (Opening f) split number a none = absurd none
stops-joining known j givens rest all given n old (Part k (Run (run.Log f))) split number a is = is
stops-joining known j givens rest all given n old (Part k (Run run.Read)) split number a none = absurd none
stops-joining known j givens rest all given n old (Part k (Run run.Write)) split number a none = absurd none
stops-joining known j givens rest all given n old (Part k (Sums f)) split number a none = absurd none
stops-joining known j givens rest all given n old (Part k (NoEventAt pos)) split number a none = absurd none
stops-joining known j givens rest all given n old (Part k (NoUnitAt place)) split number a none = absurd none
stops-joining known j givens rest all given n old (Part k (NoUnitWithGtid gtid)) split number a none = absurd none
stops-joining known j givens rest all given n old (Part k (Log f)) split number a none = absurd none
stops-joining known j givens rest all given n old (Part k NothingSelected) split number a none = absurd none
stops-joining known j givens rest all given n old (Part k (LaterLog m f)) split number a none = absurd none
stops-joining known j givens rest all given n old (Part k (ChangedSince rows lines)) split number a none = absurd none
stops-joining known j givens rest all given n old (Part k (UnknownSince lines)) split number a none = absurd none
stops-joining known j givens rest all given n old (Part k TooLong) split number a none = absurd none
stops-joining known j givens rest all given n old (Part k (NoSchema text)) split number a none = absurd none
stops-joining known j givens rest all given n old (Part k (Unmerged lines)) split number a none = absurd none

-- what holds of logs that were read as one
pub of-logs : {R : Type 0} (known : R → Option (List ℕ)) (stop : Option ℕ) (name : List ℕ) (givens : List (GivenLog R)) (old new : Option (List ℕ)) (P Q : Joined → Type 0) → OfLogs known stop name givens old new P
    → ((j : Joined) → P j → Q j) → OfLogs known stop name givens old new Q
of-logs known stop name givens old new P Q (bytes, reads, opened, inl (none, holds)) more = (bytes, reads, opened, inl (none, more _ holds))
of-logs known stop name givens old new P Q (bytes, reads, opened, inr (middle, last, split, logs, read, end, is, can, one, holds)) more =
    (bytes, reads, opened, inr (middle, last, split, logs, read, end, is, can, one, more _ holds))

-- ---- one log

-- the first
pub first-joined : {A : Type 0} (stop : Option ℕ) (name seen : List ℕ) (old new : Option (List ℕ)) (logs : Logs A) → OpensLog (reading_to stop) old new (Ok logs.source) → names_told logs.names ≡ one_name seen → seen ≡ name
    → OpensFirst stop name old new (Ok logs)
first-joined stop name seen old new logs (bytes, reads, is) named same =
    let names : names_told logs.names ≡ one_name name = named ∙ ap one_name same in (
      bytes,
      reads,
      is.sound,
      record { is = λ i. record { names = names i; handed = is.log i; end = is.end i; fault = is.fault i; time = is.time i }; opens = is.opens },
    )

-- one more, behind logs as they were read
joined-here : {A R S : Type 0} (known : R → Option (List ℕ)) (stop : Option ℕ) (n : ℕ) (given : GivenLog R) (seen : List ℕ) (left : Option (List ℕ)) (logs all : Logs A) (more : Source S)
    → OpensLog (reading_to stop) (known (device_of given.reader)) left (Ok more)
    → log_of all.source ≡ appended (log_of logs.source) (end_of logs.source) (log_of more) → end_of all.source ≡ end_of logs.source + end_of more → fault_of all.source ≡ fault_of more
    → time_of all.source ≡ time_of more → (fault_of logs.source ≡ None) × (are_of_one_server (log_of logs.source) (log_of more) ≡ true) → is_older (log_of more) (time_of logs.source) ≡ false
    → names_told all.names ≡ with_name (names_told logs.names) (end_of logs.source) seen → seen ≡ given.name.now → opening_fault (log_of all.source) ≡ None
    → Appends {A = A} known stop (joined_told logs) n given (Ok all)
joined-here known stop n given seen left logs all more (bytes, reads, is) text end fault time (whole, alike) ordered named same opens =
    let log : NamedLog = record { name = given.name.now; bytes = bytes } in
    let names : names_told all.names ≡ with_name (names_told logs.names) (end_of logs.source) given.name.now = named ∙ ap (with_name (names_told logs.names) (end_of logs.source)) same in
    let handed : log_of all.source ≡ appended (log_of logs.source) (end_of logs.source) (handed_log (reading_to stop) bytes) = text ∙ ap (appended (log_of logs.source) (end_of logs.source)) is.log in
    let ends : end_of all.source ≡ end_of logs.source + (found_of (reading_to stop) bytes).end = end ∙ ap (λ (n : ℕ). end_of logs.source + n) is.end in
    let faults : fault_of all.source ≡ (found_of (reading_to stop) bytes).fault = fault ∙ is.fault in
    let times : time_of all.source ≡ format_time (handed_log (reading_to stop) bytes) = time ∙ is.time in (
      log,
      (refl, (left, reads)),
      record { opened = is.sound; whole = whole; alike = ap (are_of_one_server (log_of logs.source)) (sym is.log) ∙ alike; ordered = ap (λ (log : List ℕ). is_older log (time_of logs.source)) (sym is.log) ∙ ordered },
      record { is = λ i. record { names = names i; handed = handed i; end = ends i; fault = faults i; time = times i }; opens = opens },
    )

pub joined-log : {A R S : Type 0} (known : R → Option (List ℕ)) (stop : Option ℕ) (j : Joined) (n : ℕ) (given : GivenLog R) (seen : List ℕ) (left : Option (List ℕ)) (logs all : Logs A) (more : Source S)
    → IsJoined j logs → OpensLog (reading_to stop) (known (device_of given.reader)) left (Ok more)
    → log_of all.source ≡ appended (log_of logs.source) (end_of logs.source) (log_of more) → end_of all.source ≡ end_of logs.source + end_of more → fault_of all.source ≡ fault_of more
    → time_of all.source ≡ time_of more → (fault_of logs.source ≡ None) × (are_of_one_server (log_of logs.source) (log_of more) ≡ true) → is_older (log_of more) (time_of logs.source) ≡ false
    → names_told all.names ≡ with_name (names_told logs.names) (end_of logs.source) seen → seen ≡ given.name.now → opening_fault (log_of all.source) ≡ None
    → Appends {A = A} known stop j n given (Ok all)
joined-log {A = A} known stop j n given seen left logs all more joined opened text end fault time alike ordered named same opens =
    subst (λ (k : Joined). Appends {A = A} known stop k n given (Ok all)) joined.is (joined-here known stop n given seen left logs all more opened text end fault time alike ordered named same opens)

-- one that isn't read
failed-here : {A R S : Type 0} (known : R → Option (List ℕ)) (stop : Option ℕ) (given : GivenLog R) (left : Option (List ℕ)) (logs : Logs A) (more : Source S) (cause : AppendFault)
    → OpensLog (reading_to stop) (known (device_of given.reader)) left (Ok more) → RefusesFurther (fault_of logs.source) (log_of logs.source) (end_of logs.source) (time_of logs.source) (log_of more) (end_of more) cause
    → FailsToJoin known (joined_told logs) given (further_cause cause)
failed-here known stop given left logs more (append.Damaged f) opened is = is
failed-here known stop given left logs more append.OtherServer (bytes, reads, source) is =
    (stop, record { name = given.name.now; bytes = bytes }, (refl, (left, reads)), ap (are_of_one_server (log_of logs.source)) (sym source.log) ∙ is)
failed-here known stop given left logs more append.OutOfOrder (bytes, reads, source) is =
    (stop, record { name = given.name.now; bytes = bytes }, (refl, (left, reads)), ap (λ (log : List ℕ). is_older log (time_of logs.source)) (sym source.log) ∙ is)
failed-here known stop given left logs more append.TooLong (bytes, reads, source) is = (
  stop,
  record { name = given.name.now; bytes = bytes },
  (refl, (left, reads)),
  λ short. is (subst (λ (n : ℕ). AreShort (log_of logs.source) (end_of logs.source) (log_of more) n) (sym source.end)
      (subst (λ (text : List ℕ). AreShort (log_of logs.source) (end_of logs.source) text (found_of (reading_to stop) bytes).end) (sym source.log) short)),
)
failed-here known stop given left logs more append.OutOfMemory opened is = inl refl

pub failed-log : {A R S : Type 0} (known : R → Option (List ℕ)) (stop : Option ℕ) (j : Joined) (n : ℕ) (given : GivenLog R) (left : Option (List ℕ)) (logs : Logs A) (more : Source S) (cause : AppendFault) (fault : FurtherFault)
    → IsJoined j logs → OpensLog (reading_to stop) (known (device_of given.reader)) left (Ok more)
    → RefusesFurther (fault_of logs.source) (log_of logs.source) (end_of logs.source) (time_of logs.source) (log_of more) (end_of more) cause → fault ≡ further_cause cause
    → Appends {A = A} known stop j n given (Err (Further n fault))
failed-log known stop j n given left logs more cause fault joined opened refused same =
    (refl, subst (λ (k : Joined). FailsToJoin known k given fault) joined.is (subst (FailsToJoin known (joined_told logs) given) (sym same) (failed-here known stop given left logs more cause opened refused)))

pub unopened-log : (A : Type 0) {R : Type 0} (B : Type 0) (known : R → Option (List ℕ)) (stop : Option ℕ) (j : Joined) (n : ℕ) (given : GivenLog R) (left : Option (List ℕ)) (fault : OpeningFault)
    → OpensLog {A = B} (reading_to stop) (known (device_of given.reader)) left (Err fault) → Appends {A = A} known stop j n given (Err (Further n (further.Opening fault)))
unopened-log A B known stop j n given left fault is = (refl, not-opened B known given (reading_to stop) left fault is)

-- memory for its name was refused
pub unnamed-log : (A : Type 0) {R : Type 0} (known : R → Option (List ℕ)) (stop : Option ℕ) (j : Joined) (n : ℕ) (given : GivenLog R) (fault : LogsFault A) → fault ≡ Part 0 (Run (run.Log OutOfMemory))
    → Appends {A = A} known stop j n given (Err fault)
unnamed-log A known stop j n given fault is = subst (λ (f : LogsFault A). Appends {A = A} known stop j n given (Err f)) (sym is) (refl, refl)

-- ---- all

-- one log alone
pub alone-opened : (A : Type 0) {R : Type 0} (known : R → Option (List ℕ)) (stop : Option ℕ) (name : List ℕ) (givens : List (GivenLog R)) (old new : Option (List ℕ)) (r : Result (Logs A) (LogsFault A)) → givens ≡ []
    → OpensFirst stop name old new r → OpensLogs {A = A} known stop name givens old new r
alone-opened A known stop name givens old new (Ok logs) none (bytes, reads, sound, joined) = (bytes, reads, sound, inl (none, joined))
alone-opened A known stop name givens old new (Err (Opening f)) none is = is
alone-opened A known stop name givens old new (Err (Further n cause)) none is = absurd is
alone-opened A known stop name givens old new (Err (Part n cause)) none is = absurd is

-- the first isn't
pub first-unopened : (A : Type 0) {R : Type 0} (known : R → Option (List ℕ)) (stop : Option ℕ) (name : List ℕ) (givens : List (GivenLog R)) (old new : Option (List ℕ)) (fault : LogsFault A)
    → OpensFirst {A = A} None name old new (Err fault) → OpensLogs {A = A} known stop name givens old new (Err fault)
first-unopened A known stop name givens old new (Opening f) is = is
first-unopened A known stop name givens old new (Further n cause) is = absurd is
first-unopened A known stop name givens old new (Part n cause) is = absurd is

-- one between the first and the last
pub middle-unopened : (A : Type 0) {R : Type 0} (known : R → Option (List ℕ)) (stop : Option ℕ) (name : List ℕ) (middle givens : List (GivenLog R)) (last : GivenLog R) (old new : Option (List ℕ)) (first : Logs A) (fault : LogsFault A)
    → givens ≡ middle ++ last ∷ [] → OpensFirst None name old new (Ok first) → ((j : Joined) → IsJoined j first → AppendsAll {A = A} known j middle (Err fault)) → OpensLogs {A = A} known stop name givens old new (Err fault)
middle-unopened A known stop name middle givens last old new first fault split (bytes, reads, sound, joined) fails = by-fault fault (fails _ joined)
  where
    by-fault : (fault : LogsFault A) → AppendsAll {A = A} known (alone None (record { name = name; bytes = bytes })) middle (Err fault) → OpensLogs {A = A} known stop name givens old new (Err fault)
    by-fault (Further n cause) (before, later, given, are, number, fails) =
        (bytes, reads, sound, (before, later ++ last ∷ [], given, sym (append_assoc before (given ∷ later) (last ∷ [])) ∙ ap (λ (gs : List (GivenLog _)). gs ++ last ∷ []) are ∙ sym split, number, fails))
    by-fault (Opening f) none = absurd none
    by-fault (Part k (Run (run.Log f))) is = is
    by-fault (Part k (Run run.Read)) none = absurd none
    by-fault (Part k (Run run.Write)) none = absurd none
    by-fault (Part k (Sums f)) none = absurd none
    by-fault (Part k (NoEventAt pos)) none = absurd none
    by-fault (Part k (NoUnitAt place)) none = absurd none
    by-fault (Part k (NoUnitWithGtid gtid)) none = absurd none
    by-fault (Part k (Log f)) none = absurd none
    by-fault (Part k NothingSelected) none = absurd none
    by-fault (Part k (LaterLog m f)) none = absurd none
    by-fault (Part k (ChangedSince rows lines)) none = absurd none
    by-fault (Part k (UnknownSince lines)) none = absurd none
    by-fault (Part k TooLong) none = absurd none
    by-fault (Part k (NoSchema text)) none = absurd none
    by-fault (Part k (Unmerged lines)) none = absurd none

-- the last
last-ended : (A : Type 0) {R : Type 0} (known : R → Option (List ℕ)) (stop : Option ℕ) (name : List ℕ) (middle givens : List (GivenLog R)) (last : GivenLog R) (n : ℕ) (old new : Option (List ℕ)) (bytes : List ℕ) (logs : List NamedLog)
    → ReadsLog old new bytes → source_refusal bytes ≡ None → givens ≡ middle ++ last ∷ [] → n ≡ length givens → AreRead known middle logs → CanJoinAll (alone None (record { name = name; bytes = bytes })) logs
    → (r : Result (Logs A) (LogsFault A)) → Appends {A = A} known stop (joined_on (alone None (record { name = name; bytes = bytes })) logs) n last r → OpensLogs {A = A} known stop name givens old new r
last-ended A known stop name middle givens last n old new bytes logs reads sound split number read can (Ok all) (log, is, one, joined) =
    (bytes, reads, sound, inr (middle, last, split, logs, read, log, is, can, one, joined))
last-ended A known stop name middle givens last n old new bytes logs reads sound split number read can (Err (Further k cause)) (same, fails) =
    let sum = length-append middle (last ∷ []) in
    let whole = ap length split in
    let count : n ≡ 1 + length middle = omega (arith, number, sum, whole) in
    (bytes, reads, sound, (middle, [], last, sym split, same ∙ count, (logs, read, can, fails)))
last-ended A known stop name middle givens last n old new bytes logs reads sound split number read can (Err (Part k (Run (run.Log f)))) is = is
last-ended A known stop name middle givens last n old new bytes logs reads sound split number read can (Err (Opening f)) none = absurd none
last-ended A known stop name middle givens last n old new bytes logs reads sound split number read can (Err (Part k (Run run.Read))) none = absurd none
last-ended A known stop name middle givens last n old new bytes logs reads sound split number read can (Err (Part k (Run run.Write))) none = absurd none
last-ended A known stop name middle givens last n old new bytes logs reads sound split number read can (Err (Part k (Sums f))) none = absurd none
last-ended A known stop name middle givens last n old new bytes logs reads sound split number read can (Err (Part k (NoEventAt pos))) none = absurd none
last-ended A known stop name middle givens last n old new bytes logs reads sound split number read can (Err (Part k (NoUnitAt place))) none = absurd none
last-ended A known stop name middle givens last n old new bytes logs reads sound split number read can (Err (Part k (NoUnitWithGtid gtid))) none = absurd none
last-ended A known stop name middle givens last n old new bytes logs reads sound split number read can (Err (Part k (Log f))) none = absurd none
last-ended A known stop name middle givens last n old new bytes logs reads sound split number read can (Err (Part k NothingSelected)) none = absurd none
last-ended A known stop name middle givens last n old new bytes logs reads sound split number read can (Err (Part k (LaterLog m f))) none = absurd none
last-ended A known stop name middle givens last n old new bytes logs reads sound split number read can (Err (Part k (ChangedSince rows lines))) none = absurd none
last-ended A known stop name middle givens last n old new bytes logs reads sound split number read can (Err (Part k (UnknownSince lines))) none = absurd none
last-ended A known stop name middle givens last n old new bytes logs reads sound split number read can (Err (Part k TooLong)) none = absurd none
last-ended A known stop name middle givens last n old new bytes logs reads sound split number read can (Err (Part k (NoSchema text))) none = absurd none
last-ended A known stop name middle givens last n old new bytes logs reads sound split number read can (Err (Part k (Unmerged lines))) none = absurd none

pub last-opened : (A : Type 0) {R : Type 0} (known : R → Option (List ℕ)) (stop : Option ℕ) (name : List ℕ) (middle givens : List (GivenLog R)) (last : GivenLog R) (n : ℕ) (old new : Option (List ℕ)) (first logs : Logs A)
    (r : Result (Logs A) (LogsFault A)) → givens ≡ middle ++ last ∷ [] → n ≡ length givens → OpensFirst None name old new (Ok first)
    → ((j : Joined) → IsJoined j first → AppendsAll {A = A} known j middle (Ok logs)) → ((j : Joined) → IsJoined j logs → Appends {A = A} known stop j n last r) → OpensLogs {A = A} known stop name givens old new r
last-opened A known stop name middle givens last n old new first logs r split number (bytes, reads, sound, joined) appends ends =
    let (read, is, can, whole) = appends _ joined in
    last-ended A known stop name middle givens last n old new bytes read reads sound split number is can r (ends _ whole)

-- ---- no read of the first failed, where it was read

further-unfailed : (A : Type 0) {R : Type 0} (known : R → Option (List ℕ)) (j : Joined) (givens : List (GivenLog R)) (fault : LogsFault A) → AppendsAll {A = A} known j givens (Err fault)
    → is_failed_reading {A = A} {X = Logs A} (Err fault) ≡ false
further-unfailed A known j givens (Opening f) none = absurd none
further-unfailed A known j givens (Further n cause) is = refl
further-unfailed A known j givens (Part n cause) is = refl

last-unfailed : (A : Type 0) {R : Type 0} (known : R → Option (List ℕ)) (stop : Option ℕ) (j : Joined) (n : ℕ) (given : GivenLog R) (r : Result (Logs A) (LogsFault A)) → Appends {A = A} known stop j n given r
    → is_failed_reading r ≡ false
last-unfailed A known stop j n given (Ok logs) is = refl
last-unfailed A known stop j n given (Err (Opening f)) none = absurd none
last-unfailed A known stop j n given (Err (Further k cause)) is = refl
last-unfailed A known stop j n given (Err (Part k cause)) is = refl

pub none-failed : (A : Type 0) {R : Type 0} (known : R → Option (List ℕ)) (name : List ℕ) (middle : List (GivenLog R)) (old new : Option (List ℕ)) (first : Logs A) (fault : LogsFault A) → OpensFirst None name old new (Ok first)
    → ((j : Joined) → IsJoined j first → AppendsAll {A = A} known j middle (Err fault)) → is_failed_reading {A = A} {X = Logs A} (Err fault) ≡ false
none-failed A known name middle old new first fault (bytes, reads, sound, joined) fails = further-unfailed A known _ middle fault (fails _ joined)

pub none-failed-last : (A : Type 0) {R : Type 0} (known : R → Option (List ℕ)) (stop : Option ℕ) (name : List ℕ) (middle : List (GivenLog R)) (last : GivenLog R) (n : ℕ) (old new : Option (List ℕ)) (first logs : Logs A)
    (r : Result (Logs A) (LogsFault A)) → OpensFirst None name old new (Ok first) → ((j : Joined) → IsJoined j first → AppendsAll {A = A} known j middle (Ok logs))
    → ((j : Joined) → IsJoined j logs → Appends {A = A} known stop j n last r) → is_failed_reading r ≡ false
none-failed-last A known stop name middle last n old new first logs r (bytes, reads, sound, joined) appends ends =
    let (read, is, can, whole) = appends _ joined in last-unfailed A known stop _ n last r (ends _ whole)
