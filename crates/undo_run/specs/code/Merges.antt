-- What comes of merging rows that were changed since.
use Rattle.std.specs.Prelude.{◌≡◌, ⊤, ℕ, true, false, List, ◌++◌, Option, Some, None, Vec, Result, Ok, Err, length}
use Rattle.blog_device.specs.declared.fault.RunFault.TheVariants as run
use Rattle.blog_event.specs.declared.fault.Fault.TheVariants.{OutOfMemory}
use Rattle.blog_merged.specs.code.MergedView.{bytes_merged}
use Rattle.blog_run.specs.declared.writing.Writing.{Writing}
use Rattle.blog_trans.specs.Changes.{counts_of}
use Rattle.blog_trans.specs.Groups.{groups}
use Rattle.blog_trans.specs.Selection.{all}
use Rattle.blog_trans.specs.code.IndexView.{index_bytes, index_selection}
use Rattle.blog_trans.specs.declared.groups.Index.{Index}
use Rattle.list_run.specs.Listed.{NamedLog}
use Rattle.list_run.specs.declared.given.GivenLog.{GivenLog}
use Rattle.undo_run.specs.Leaving.{AreUnknown, are_all, marks_undone}
use Rattle.undo_run.specs.Merging.{AreNoneMerged, IsKnown, IsMergedLog, plan_merged, rows_merged, rows_staying, undoes_some}
use Rattle.undo_run.specs.Reports.{Since, merged_text, report}
use Rattle.undo_run.specs.Several.{Names}
use Rattle.undo_run.specs.Taken.{FailsLater, OfLater, Taken, WritesBy, since_told}
use Rattle.undo_run.specs.code.SinceView.{since_seen}
use Rattle.undo_run.specs.declared.fault.PartFault.{PartFault}
use Rattle.undo_run.specs.declared.fault.PartFault.TheVariants.{Run, LaterLog, ChangedSince, UnknownSince, Unmerged, TooLong}
use Rattle.undo_run.specs.declared.merged.Merging.{Merging}
use Rattle.undo_run.specs.declared.merged.SeenToMerge.{SeenToMerge}

-- all changes are undone; or there is a log whose undo undoes some and updates other rows, and this is told of them
abbrev pub HasMerging : {A : Type 0} → Taken → List NamedLog → Option (Merging A) → Type 0
HasMerging t logs None = are_all (marks_undone t logs) ≡ true
HasMerging t logs (Some merging) = (are_all (marks_undone t logs) ≡ false) × IsMergedLog t logs (bytes_merged merging.log)
    × ((lines : List ℕ) × (merging.told.items ≡ merged_text (rows_merged t logs) (rows_staying t logs) ++ lines))

-- rows aren't merged: memory was refused, or it isn't known how
abbrev pub IsUnmerged : {A : Type 0} → PartFault A → Type 0
IsUnmerged (Run (run.Log f)) = f ≡ OutOfMemory
IsUnmerged (Unmerged lines) = ⊤
IsUnmerged cause = ⊥

-- what comes of merging them, where so many rows were changed
abbrev pub MergesOut : {A : Type 0} → Taken → List NamedLog → ℕ → Result (Option (Merging A)) (PartFault A) → Type 0
MergesOut t logs touched (Ok merging) = HasMerging t logs merging
MergesOut t logs touched (Err (ChangedSince rows lines)) = (rows ≡ touched) × (undoes_some t logs ≡ false)
MergesOut t logs touched (Err (Unmerged lines)) = are_all (marks_undone t logs) ≡ false
MergesOut t logs touched (Err TooLong) = are_all (marks_undone t logs) ≡ false
MergesOut t logs touched (Err (Run (run.Log f))) = f ≡ OutOfMemory
MergesOut t logs touched (Err cause) = ⊥

-- what comes of looking at what came after units, and merging what that touches
abbrev pub MergesAfter : {A R : Type 0} → (R → Option (List ℕ)) → List (GivenLog R) → Taken → Result (SeenToMerge A) (PartFault A) → Type 0
MergesAfter known givens t (Ok seen) = OfLater true known givens (λ logs. IsKnown t logs × (Some (since_seen seen.since) ≡ since_told true t logs) × HasMerging t logs seen.merging)
MergesAfter known givens t (Err (ChangedSince rows lines)) = OfLater true known givens (λ logs. AreNoneMerged t logs rows)
MergesAfter known givens t (Err (UnknownSince lines)) = OfLater true known givens (AreUnknown t)
MergesAfter known givens t (Err (Unmerged lines)) = OfLater true known givens (λ logs. IsKnown t logs × (are_all (marks_undone t logs) ≡ false))
MergesAfter known givens t (Err TooLong) = OfLater true known givens (λ logs. IsKnown t logs × (are_all (marks_undone t logs) ≡ false))
MergesAfter known givens t (Err (LaterLog n f)) = FailsLater known givens n f
MergesAfter known givens t (Err (Run (run.Log f))) = f ≡ OutOfMemory
MergesAfter known givens t (Err cause) = ⊥

-- ---- writing

-- what comes of writing units of which rows are merged
abbrev pub WritesMerged : {A R : Type 0} → (R → Option (List ℕ)) → List (GivenLog R) → Writing → Names → Taken → Option (List ℕ) → Option (List ℕ) → Result (Vec ℕ A) (PartFault A) → Type 0
WritesMerged known givens w names t had has result = (log : List ℕ) × WritesBy true known givens w (plan_merged w names t log) ⊤ (λ cause. ⊥) had has result

-- the report of a log, of which so many transactions are told as an index has
abbrev pub merging_told : {A : Type 0} → Writing → Names → Index A → Option Since → List ℕ → List ℕ
merging_told w names index since log = report w.order names (length (groups (index_bytes index) (index_selection index))) (counts_of (groups log all)) since
