-- What comes of recording what came after chosen units, and of leaving out rows that were changed since.
use Rattle.std.specs.Prelude.{◌≡◌, ◌<◌, ⊤, ℕ, Bool, true, false, List, ◌++◌, length, Option, Some, None, Vec, Result, Ok, Err}
use Rattle.blog_device.specs.declared.fault.RunFault.TheVariants as run
use Rattle.blog_event.specs.declared.fault.Fault.TheVariants.{OutOfMemory}
use Rattle.blog_differences.specs.Outside.{outside_by}
use Rattle.blog_followed.specs.code.FollowedView.{kept_told}
use Rattle.blog_followed.specs.declared.followed.Followed.{Followed}
use Rattle.blog_later.specs.Among.{marked_in, touches_among}
use Rattle.blog_later.specs.Prints.{Left, print_of}
use Rattle.blog_left_out.specs.LeftOut.{left_out_text}
use Rattle.blog_left_out.specs.code.LeftOutView.{bytes_left}
use Rattle.blog_left_out.specs.declared.left_out.LeftOut.{LeftOut}
use Rattle.blog_merge.specs.Merge.{pairs_of}
use Rattle.blog_pairs.specs.Steps.{pairs_with}
use Rattle.blog_run.specs.declared.writing.Writing.{Writing}
use Rattle.blog_trans.specs.Selection.{all}
use Rattle.blog_untouched.specs.Recorded.{IsRecorded}
use Rattle.list_run.specs.Listed.{NamedLog}
use Rattle.list_run.specs.declared.given.GivenLog.{GivenLog}
use Rattle.undo_run.specs.After.{Later, later_changes}
use Rattle.undo_run.specs.Leaving.{AreAllChanged, AreUnknown, IsPartSafe, are_all, are_some, log_undone, marks_undone, mixed, plan_left, rows_left}
use Rattle.undo_run.specs.Reports.{left_text}
use Rattle.undo_run.specs.Several.{Names}
use Rattle.undo_run.specs.Taken.{FailsLater, OfLater, Taken, WritesBy, after, since_told, steps_after, tables_taken}
use Rattle.undo_run.specs.code.SinceView.{AreSeen, since_seen}
use Rattle.undo_run.specs.declared.fault.PartFault.{PartFault}
use Rattle.undo_run.specs.declared.fault.PartFault.TheVariants.{Run, LaterLog, ChangedSince, UnknownSince, Unmerged, TooLong}
use Rattle.undo_run.specs.code.Tracks.{Tracks}
use Rattle.undo_run.specs.declared.since.Since as told
use Rattle.undo_run.specs.declared.tracked.Tracked.{Tracked}
use Rattle.undo_run.specs.declared.untouched.Recorded.{Recorded}
use Rattle.undo_run.specs.declared.untouched.Rest.{Rest}
use Rattle.undo_run.specs.declared.untouched.Seen.{Seen}

-- ---- recording

-- the rows that later logs take of those with these fingerprints are recorded, where that is asked
abbrev pub Records : {A : Type 0} → Bool → Left → Tracked A → Tracked A → List Later → Type 0
Records asked kept old new ls = asked ≡ true → Tracks kept.rows (later_changes ls) old new

-- the changes of later logs that are kept make the same pairs as all of them, after those of the log without what some marks say is undone
abbrev pub KeepsPairs : {A : Type 0} → Taken → List NamedLog → Followed A → Type 0
KeepsPairs t logs followed = (marks : List Bool) → pairs_with false (kept_told followed) (pairs_of (outside_by marks (marked_in t.steps))) ≡ pairs_of (outside_by marks (mixed t logs))

-- all changes from the first selected one on are recorded, and rows followed through them, where they are; and this was seen
pub record AreRecorded {A : Type 0} (t : Taken) (logs : List NamedLog) (follows : Bool) (recorded : Recorded A) : Type 0 where
  pub seen : AreSeen (touches_among (steps_after t logs)) (tables_taken t) (after t logs) recorded.since
  pub changes : IsRecorded print_of (mixed t logs) recorded.tracked.record.rows.items recorded.tracked.record.taken.items
  pub pairs : follows ≡ true → KeepsPairs t logs recorded.tracked.followed

abbrev pub RecordsAfter : {A R : Type 0} → (R → Option (List ℕ)) → List (GivenLog R) → Taken → Bool → Result (Recorded A) (PartFault A) → Type 0
RecordsAfter known givens t follows (Ok recorded) = OfLater true known givens (λ logs. AreRecorded t logs follows recorded)
RecordsAfter known givens t follows (Err (LaterLog n f)) = FailsLater known givens n f
RecordsAfter known givens t follows (Err (Run (run.Log f))) = f ≡ OutOfMemory
RecordsAfter known givens t follows (Err cause) = ⊥

-- ---- leaving out

-- a log without some rows is written; or it would be too long, or memory was refused
abbrev pub LeavesRows : {A : Type 0} → List ℕ → Result (LeftOut A) (PartFault A) → Type 0
LeavesRows text (Ok log) = bytes_left log ≡ text
LeavesRows text (Err TooLong) = 4294967295 < length text
LeavesRows text (Err (Run (run.Log f))) = f ≡ OutOfMemory
LeavesRows text (Err cause) = ⊥

-- all changes are undone; or there is a log without the rows of the others, and this is told of them
abbrev pub HasRest : {A : Type 0} → Taken → List NamedLog → Option (Rest A) → Type 0
HasRest t logs None = are_all (marks_undone t logs) ≡ true
HasRest t logs (Some rest) = (are_all (marks_undone t logs) ≡ false) × (bytes_left rest.log ≡ left_out_text (marks_undone t logs) t.log all)
    × ((lines : List ℕ) × (rest.told.items ≡ left_text (rows_left t logs) ++ lines))

-- what comes of leaving out what is touched, where so many rows were changed
abbrev pub LeavesOut : {A : Type 0} → Taken → List NamedLog → ℕ → Result (Option (Rest A)) (PartFault A) → Type 0
LeavesOut t logs touched (Ok rest) = (are_some (marks_undone t logs) ≡ true) × HasRest t logs rest
LeavesOut t logs touched (Err (ChangedSince rows lines)) = (rows ≡ touched) × (are_some (marks_undone t logs) ≡ false)
LeavesOut t logs touched (Err TooLong) = (are_some (marks_undone t logs) ≡ true) × (are_all (marks_undone t logs) ≡ false) × (4294967295 < length (left_out_text (marks_undone t logs) t.log all))
LeavesOut t logs touched (Err (Run (run.Log f))) = f ≡ OutOfMemory
LeavesOut t logs touched (Err cause) = ⊥

-- what comes of looking at what came after units, and leaving out what that touches
abbrev pub Leaves : {A R : Type 0} → (R → Option (List ℕ)) → List (GivenLog R) → Taken → Result (Seen A) (PartFault A) → Type 0
Leaves known givens t (Ok seen) = OfLater true known givens (λ logs. IsPartSafe t logs × (Some (since_seen seen.since) ≡ since_told true t logs) × HasRest t logs seen.rest)
Leaves known givens t (Err (ChangedSince rows lines)) = OfLater true known givens (λ logs. AreAllChanged t logs rows)
Leaves known givens t (Err (UnknownSince lines)) = OfLater true known givens (AreUnknown t)
Leaves known givens t (Err TooLong) = OfLater true known givens (λ logs. IsPartSafe t logs × (4294967295 < length (log_undone t logs)))
Leaves known givens t (Err (LaterLog n f)) = FailsLater known givens n f
Leaves known givens t (Err (Run (run.Log f))) = f ≡ OutOfMemory
Leaves known givens t (Err cause) = ⊥

-- ---- writing

-- what comes of writing units of which rows are left
abbrev pub WritesLeft : {A R : Type 0} → (R → Option (List ℕ)) → List (GivenLog R) → Writing → Names → Taken → Option (List ℕ) → Option (List ℕ) → Result (Vec ℕ A) (PartFault A) → Type 0
WritesLeft known givens w names t had has result = WritesBy true known givens w (plan_left w names t) ⊤ (λ cause. ⊥) had has result
