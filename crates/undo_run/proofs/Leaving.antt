-- Rows that were changed since are left as they are.
use Rattle.std.proofs.Common.{◌≡◌, ℕ, ◌+◌, ◌<◌, ◌≤◌, Bool, true, false, List, [], ◌∷◌, ◌++◌, length, map, ◌⊎◌, inl, inr, Option, Some, None, Ok, Err, Result, refl, sym, ap, subst, ◌∙◌, arith, append-nil, length-append}
use Rattle.std.specs.Prelude.{⊤, Vec, filter, not, if◌then◌else◌, option_map}
use Rattle.std.specs.Io.KnownBytes.{Keeps}
use Rattle.std.proofs.lemmas.Bool.{cond-false, cond-true, false≢true}
use Rattle.blog_choice.specs.Choice.{Choice}
use Rattle.blog_device.specs.declared.fault.RunFault.TheVariants as run
use Rattle.blog_event.specs.declared.fault.Fault.TheVariants.{OutOfMemory}
use Rattle.blog_left_out.specs.LeftOut.{left_out_text}
use Rattle.blog_left_out.specs.code.LeftOutView.{bytes_left}
use Rattle.blog_later.specs.Among.{touches_among}
use Rattle.blog_later.specs.Prints.{print_of}
use Rattle.blog_run.specs.Writing.{end_of_text}
use Rattle.blog_run.specs.declared.writing.Writing.{Writing}
use Rattle.blog_trans.specs.Selection.{all}
use Rattle.blog_untouched.proofs.PartsBy.{part-undoable}
use Rattle.blog_untouched.specs.Rows.{left_out}
use Rattle.list_run.specs.Listed.{NamedLog}
use Rattle.list_run.specs.declared.given.GivenLog.{GivenLog}
use Rattle.undo_run.specs.After.{is_damaged, unknown_units}
use Rattle.undo_run.specs.Leaving.{AreUnknown, IsPartSafe, are_all, are_some, log_undone, marks_undone, mixed, plan_left, rows_left}
use Rattle.undo_run.specs.Reports.{Since, left_text}
use Rattle.undo_run.specs.Several.{Names}
use Rattle.undo_run.specs.Taken.{OfLater, Taken, after, since_told, steps_after, tables_taken}
use Rattle.undo_run.specs.code.Leaves.{AreRecorded, HasRest, Leaves, LeavesOut, LeavesRows, RecordsAfter, WritesLeft}
use Rattle.undo_run.specs.code.SinceView.{AreSeen, since_seen}
use Rattle.undo_run.specs.code.Steps.{WritesGroups, WritesIndex, report_told}
use Rattle.undo_run.specs.declared.fault.PartFault.{PartFault}
use Rattle.undo_run.specs.declared.fault.PartFault.TheVariants.{Run, Sums, NoEventAt, NoUnitAt, NoUnitWithGtid, Log, NothingSelected, LaterLog, ChangedSince, UnknownSince, Unmerged, TooLong, NoSchema}
use Rattle.undo_run.specs.declared.since.Since as told
use Rattle.undo_run.specs.declared.untouched.Recorded.{Recorded}
use Rattle.undo_run.specs.declared.untouched.Rest.{Rest}
use Rattle.undo_run.specs.declared.untouched.Seen.{Seen}
use Rattle.undo_run.proofs.Judged.{told-since}
use Rattle.undo_run.proofs.LookedAt.{none-more, none-left, some-more}
use Rattle.undo_run.proofs.Stages.{planned}

-- ---- marks

-- as many changes aren't kept as are numbered
left-out-length : (n : ℕ) (marks : List Bool) → length (left_out n marks) ≡ length (filter not marks)
left-out-length n [] = refl
left-out-length n (true ∷ marks) = ap length (append-nil (left_out (n + 1) marks)) ∙ left-out-length (n + 1) marks
left-out-length n (false ∷ marks) =
    let more = left-out-length (n + 1) marks in
    let long = length-append (left_out (n + 1) marks) (n ∷ []) in
    omega (arith, more, long)

pub numbered-left : (rows : List ℕ) (marks : List Bool) → rows ≡ left_out 0 marks → length rows ≡ length (filter not marks)
numbered-left rows marks are = ap length are ∙ left-out-length 0 marks

pub none-out : (marks : List Bool) → length (filter not marks) ≡ 0 → are_all marks ≡ true
none-out [] none = refl
none-out (true ∷ marks) none = none-out marks none
none-out (false ∷ marks) none = absurd (omega (arith, none))

pub some-out : (marks : List Bool) → 0 < length (filter not marks) → are_all marks ≡ false
some-out [] some = absurd (omega (arith, some))
some-out (true ∷ marks) some = some-out marks some
some-out (false ∷ marks) some = refl

-- ---- by what was recorded

pub unknown-left : {A : Type 0} (t : Taken) (logs : List NamedLog) (follows : Bool) (recorded : Recorded A) → AreRecorded t logs follows recorded → (0 < recorded.since.unknown) ⊎ (recorded.since.is_damaged ≡ true) → AreUnknown t logs
unknown-left t logs follows recorded are (inl some) = inl (some-more recorded.since.unknown _ are.seen.unknown some)
unknown-left t logs follows recorded are (inr damaged) = inr (sym are.seen.damaged ∙ damaged)

pub unknown-after : {A R : Type 0} (known : R → Option (List ℕ)) (givens : List (GivenLog R)) (t : Taken) (follows : Bool) (recorded : Recorded A) → RecordsAfter known givens t follows (Ok recorded) → (0 < recorded.since.unknown) ⊎ (recorded.since.is_damaged ≡ true)
    → OfLater true known givens (AreUnknown t)
unknown-after known givens t follows recorded (logs, read, are) is = (logs, read, unknown-left t logs follows recorded are is)

pub part-safe : {A : Type 0} (t : Taken) (logs : List NamedLog) (recorded : Recorded A) → AreRecorded t logs false recorded → recorded.since.unknown ≡ 0 → recorded.since.is_damaged ≡ false → are_some (marks_undone t logs) ≡ true
    → IsPartSafe t logs
part-safe t logs recorded are known whole some = record {
  undoable = part-undoable print_of (mixed t logs);
  some = some;
  known = none-left (unknown_units (tables_taken t) (after t logs)) (none-more recorded.since.unknown _ are.seen.unknown known);
  whole = sym are.seen.damaged ∙ whole;
}

left-log : (t : Taken) (logs : List NamedLog) → are_all (marks_undone t logs) ≡ false → left_out_text (marks_undone t logs) t.log all ≡ log_undone t logs
left-log t logs some = sym (cond-false (are_all (marks_undone t logs)) t.log (left_out_text (marks_undone t logs) t.log all) some)

pub all-left : {A R : Type 0} (known : R → Option (List ℕ)) (givens : List (GivenLog R)) (t : Taken) (recorded : Recorded A) (rest : Option (Rest A)) → recorded.since.unknown ≡ 0 → recorded.since.is_damaged ≡ false
    → RecordsAfter known givens t false (Ok recorded) → ((logs : List NamedLog) → AreRecorded t logs false recorded → LeavesOut t logs recorded.since.touched (Ok rest)) → Leaves known givens t (Ok (record { since = recorded.since; rest = rest }))
all-left known givens t recorded rest clear whole (logs, read, are) leaves =
    let (some, has) = leaves logs are in
    (logs, read, (part-safe t logs recorded are clear whole some, told-since t logs (touches_among (steps_after t logs)) (tables_taken t) recorded.since refl are.seen, has))

pub none-kept : {A R : Type 0} (known : R → Option (List ℕ)) (givens : List (GivenLog R)) (t : Taken) (recorded : Recorded A) (cause : PartFault A) → recorded.since.unknown ≡ 0 → recorded.since.is_damaged ≡ false
    → RecordsAfter known givens t false (Ok recorded) → ((logs : List NamedLog) → AreRecorded t logs false recorded → LeavesOut t logs recorded.since.touched (Err cause)) → Leaves {A = A} known givens t (Err cause)
none-kept known givens t recorded (ChangedSince rows lines) clear whole (logs, read, are) leaves = let (is, none) = leaves logs are in (logs, read, (is ∙ are.seen.touched, none))
none-kept known givens t recorded TooLong clear whole (logs, read, are) leaves =
    let (some, out, long) = leaves logs are in (logs, read, (part-safe t logs recorded are clear whole some, subst (λ (log : List ℕ). 4294967295 < length log) (left-log t logs out) long))
none-kept known givens t recorded (Run (run.Log f)) clear whole (logs, read, are) leaves = leaves logs are
none-kept known givens t recorded (Run run.Read) clear whole (logs, read, are) leaves = absurd (leaves logs are)
none-kept known givens t recorded (Run run.Write) clear whole (logs, read, are) leaves = absurd (leaves logs are)
none-kept known givens t recorded (Sums f) clear whole (logs, read, are) leaves = absurd (leaves logs are)
none-kept known givens t recorded (NoEventAt pos) clear whole (logs, read, are) leaves = absurd (leaves logs are)
none-kept known givens t recorded (NoUnitAt place) clear whole (logs, read, are) leaves = absurd (leaves logs are)
none-kept known givens t recorded (NoUnitWithGtid gtid) clear whole (logs, read, are) leaves = absurd (leaves logs are)
none-kept known givens t recorded (Log f) clear whole (logs, read, are) leaves = absurd (leaves logs are)
none-kept known givens t recorded (LaterLog n f) clear whole (logs, read, are) leaves = absurd (leaves logs are)
none-kept known givens t recorded (UnknownSince lines) clear whole (logs, read, are) leaves = absurd (leaves logs are)
none-kept known givens t recorded (NoSchema text) clear whole (logs, read, are) leaves = absurd (leaves logs are)
none-kept known givens t recorded (Unmerged lines) clear whole (logs, read, are) leaves = absurd (leaves logs are)
none-kept known givens t recorded NothingSelected clear whole (logs, read, are) leaves = absurd (leaves logs are)

pub not-recorded-left : {A R : Type 0} (known : R → Option (List ℕ)) (givens : List (GivenLog R)) (t : Taken) (cause : PartFault A) → RecordsAfter {A = A} known givens t false (Err cause) → Leaves {A = A} known givens t (Err cause)
not-recorded-left known givens t (LaterLog n f) fails = fails
not-recorded-left known givens t (Run (run.Log f)) is = is
not-recorded-left known givens t (Run run.Read) none = absurd none
not-recorded-left known givens t (Run run.Write) none = absurd none
not-recorded-left known givens t (Sums f) none = absurd none
not-recorded-left known givens t (NoEventAt pos) none = absurd none
not-recorded-left known givens t (NoUnitAt place) none = absurd none
not-recorded-left known givens t (NoUnitWithGtid gtid) none = absurd none
not-recorded-left known givens t (Log f) none = absurd none
not-recorded-left known givens t (ChangedSince rows lines) none = absurd none
not-recorded-left known givens t (UnknownSince lines) none = absurd none
not-recorded-left known givens t TooLong none = absurd none
not-recorded-left known givens t (NoSchema text) none = absurd none
not-recorded-left known givens t (Unmerged lines) none = absurd none
not-recorded-left known givens t NothingSelected none = absurd none

-- ---- leaving out

-- the log without the rows of the others isn't written
pub not-left-out : {A : Type 0} (t : Taken) (logs : List NamedLog) (touched : ℕ) (text : List ℕ) (cause : PartFault A) → are_some (marks_undone t logs) ≡ true → are_all (marks_undone t logs) ≡ false
    → text ≡ left_out_text (marks_undone t logs) t.log all → LeavesRows {A = A} text (Err cause) → LeavesOut {A = A} t logs touched (Err cause)
not-left-out t logs touched text TooLong some out is long = (some, out, subst (λ (b : List ℕ). 4294967295 < length b) is long)
not-left-out t logs touched text (Run (run.Log f)) some out is refused = refused
not-left-out t logs touched text (Run run.Read) some out is none = absurd none
not-left-out t logs touched text (Run run.Write) some out is none = absurd none
not-left-out t logs touched text (Sums f) some out is none = absurd none
not-left-out t logs touched text (NoEventAt pos) some out is none = absurd none
not-left-out t logs touched text (NoUnitAt place) some out is none = absurd none
not-left-out t logs touched text (NoUnitWithGtid gtid) some out is none = absurd none
not-left-out t logs touched text (Log f) some out is none = absurd none
not-left-out t logs touched text (LaterLog n f) some out is none = absurd none
not-left-out t logs touched text (ChangedSince rows lines) some out is none = absurd none
not-left-out t logs touched text (UnknownSince lines) some out is none = absurd none
not-left-out t logs touched text (NoSchema told) some out is none = absurd none
not-left-out t logs touched text (Unmerged lines) some out is none = absurd none
not-left-out t logs touched text NothingSelected some out is none = absurd none

-- ---- writing

-- all changes are undone
pub whole-written : {A R : Type 0} (known : R → Option (List ℕ)) (givens : List (GivenLog R)) (w : Writing) (name : Names) (t : Taken) (had has : Option (List ℕ)) (seen : Seen A) (bytes : List ℕ) (r : Result (Vec ℕ A) (PartFault A))
    → Leaves known givens t (Ok seen) → seen.rest ≡ None → bytes ≡ t.log → WritesIndex w name (Some (since_seen seen.since)) bytes all had has r → WritesLeft known givens w name t had has r
whole-written known givens w name t had has seen bytes r (logs, read, (safe, since, rest)) none same is =
    let every : are_all (marks_undone t logs) ≡ true = subst (HasRest t logs) none rest in
    let log : bytes ≡ log_undone t logs = same ∙ sym (cond-true (are_all (marks_undone t logs)) t.log (left_out_text (marks_undone t logs) t.log all) every) in
    let telling : Option Since → List ℕ → List ℕ = λ s b. report_told w name s b all in
    planned true known givens w (plan_left w name t) ⊤ (λ cause. ⊥) had has logs (telling (Some (since_seen seen.since)) bytes) bytes all r tt read safe log refl (λ long. (safe, inr long))
    (λ told told_is. inl (every, told_is ∙ (λ i. telling (since i) (log i)))) is

-- others are left out
pub rest-written : {A R : Type 0} (known : R → Option (List ℕ)) (givens : List (GivenLog R)) (w : Writing) (name : Names) (t : Taken) (had has : Option (List ℕ)) (seen : Seen A) (rest : Rest A) (r : Result (Vec ℕ A) (PartFault A))
    → Leaves known givens t (Ok seen) → seen.rest ≡ Some rest
    → WritesGroups w (report_told w name (Some (since_seen seen.since)) (bytes_left rest.log) all ++ rest.told.items) (bytes_left rest.log) all had has r → WritesLeft known givens w name t had has r
rest-written known givens w name t had has seen rest r (logs, read, (safe, since, left)) some writes =
    let (out, text, (lines, told_is)) : HasRest t logs (Some rest) = subst (HasRest t logs) some left in
    let log : bytes_left rest.log ≡ log_undone t logs = text ∙ left-log t logs out in
    let telling : Option Since → List ℕ → List ℕ = λ s b. report_told w name s b all in
    planned true known givens w (plan_left w name t) ⊤ (λ cause. ⊥) had has logs (telling (Some (since_seen seen.since)) (bytes_left rest.log) ++ rest.told.items) (bytes_left rest.log) all r tt read safe log refl (λ long. (safe, inr long))
    (λ told is. inr (out, (lines, is ∙ (λ i. telling (since i) (log i) ++ told_is i)))) writes
