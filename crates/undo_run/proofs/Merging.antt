-- Rows that were changed since are merged.
use Rattle.std.proofs.Common.{◌≡◌, ℕ, ◌<◌, Bool, true, false, not, ◌&&◌, ◌||◌, List, [], ◌∷◌, ◌++◌, length, ◌⊎◌, inl, inr, Option, Some, None, Ok, Err, Result, refl, sym, ap, subst, ◌∙◌, arith, append-nil}
use Rattle.std.specs.Prelude.{⊤, Vec, if◌then◌else◌, nat_lt}
use Rattle.std.specs.List.{list_all}
use Rattle.std.proofs.lemmas.Bool.{cond-false, cond-true, false≢true}
use Rattle.blog_device.specs.declared.fault.RunFault.TheVariants as run
use Rattle.blog_differences.proofs.Outside.{outside_part}
use Rattle.blog_differences.specs.Outside.{outside_by}
use Rattle.blog_event.specs.declared.fault.Fault.TheVariants.{OutOfMemory}
use Rattle.blog_later.specs.Among.{touches_among}
use Rattle.blog_later.specs.Prints.{print_of}
use Rattle.blog_merge.proofs.PartsMerged.{undoes-and-merges-by}
use Rattle.blog_merge.specs.Laws.{none_selected, outside_of}
use Rattle.blog_merge.specs.Merge.{pairs_of}
use Rattle.blog_merged.specs.Nets.{nets_of}
use Rattle.blog_merged.specs.code.MergedView.{bytes_merged}
use Rattle.blog_run.specs.declared.writing.Writing.{Writing}
use Rattle.blog_trans.specs.Changes.{counts_of}
use Rattle.blog_trans.specs.Groups.{groups}
use Rattle.blog_trans.specs.Selection.{all}
use Rattle.blog_trans.specs.code.IndexView.{index_bytes, index_selection}
use Rattle.blog_trans.specs.declared.groups.Index.{Index}
use Rattle.blog_undo.specs.Mixed.{Marked, TableRow}
use Rattle.blog_untouched.proofs.PartsBy.{part-undoable}
use Rattle.blog_untouched.specs.ByPrints.{is_left_alone_by, part_by}
use Rattle.blog_untouched.specs.Recorded.{marks_in}
use Rattle.list_run.specs.Listed.{NamedLog}
use Rattle.list_run.specs.declared.given.GivenLog.{GivenLog}
use Rattle.undo_run.specs.After.{is_damaged, unknown_units}
use Rattle.undo_run.specs.Leaving.{AreUnknown, are_all, are_some, marks_undone, mixed, part_undone}
use Rattle.undo_run.specs.Merging.{IsKnown, IsMergedLog, pairs_left, plan_merged, report_merged, rows_merged, rows_staying, undoes_some}
use Rattle.undo_run.specs.Reports.{Since, report}
use Rattle.undo_run.specs.Several.{Names}
use Rattle.undo_run.specs.Taken.{Taken, after, since_told, steps_after, tables_taken}
use Rattle.undo_run.specs.code.Leaves.{AreRecorded, KeepsPairs, LeavesRows, RecordsAfter}
use Rattle.undo_run.specs.code.Merges.{HasMerging, IsUnmerged, MergesAfter, MergesOut, WritesMerged, merging_told}
use Rattle.undo_run.specs.code.SinceView.{AreSeen, since_seen}
use Rattle.undo_run.specs.code.Steps.{WritesGroups, WritesIndex, report_told}
use Rattle.undo_run.specs.declared.fault.PartFault.{PartFault}
use Rattle.undo_run.specs.declared.fault.PartFault.TheVariants.{Run, Sums, NoEventAt, NoUnitAt, NoUnitWithGtid, Log, NothingSelected, LaterLog, ChangedSince, UnknownSince, Unmerged, TooLong, NoSchema}
use Rattle.undo_run.specs.declared.merged.Merging.{Merging}
use Rattle.undo_run.specs.declared.merged.SeenToMerge.{SeenToMerge}
use Rattle.undo_run.specs.declared.since.Since as told
use Rattle.undo_run.specs.declared.untouched.Recorded.{Recorded}
use Rattle.undo_run.proofs.Judged.{told-since}
use Rattle.undo_run.proofs.LookedAt.{none-left, none-more}
use Rattle.undo_run.proofs.Leaving.{unknown-left}
use Rattle.undo_run.proofs.Stages.{planned}

-- ---- pairs

-- where all is undone, no selected change is outside
none-outside : (f : TableRow → ℕ) (ms : List Marked) → are_all (marks_in ms (part_by f ms)) ≡ true → none_selected (outside_of (part_by f ms) ms) ≡ true
none-outside f [] every = refl
none-outside f (m ∷ ms) every = by_case m.selected (is_left_alone_by f m.change (part_by f ms)) refl (none-outside f ms) every
  where
    by_case : (s b : Bool) → m.selected ≡ s → (are_all (marks_in ms (part_by f ms)) ≡ true → none_selected (outside_of (part_by f ms) ms) ≡ true)
        → are_all (if s then (s && b) ∷ marks_in ms (part_by f ms) else marks_in ms (part_by f ms)) ≡ true
        → none_selected (if s && b then outside_of (part_by f ms) ms else m ∷ outside_of (part_by f ms) ms) ≡ true
    by_case true true is later all_true = later all_true
    by_case true false is later none = absurd (false≢true none)
    by_case false b is later all_true = subst (λ (c : Bool). (not c && none_selected (outside_of (part_by f ms) ms)) ≡ true) (sym is) (later all_true)

pub none-selected-left : (t : Taken) (logs : List NamedLog) → are_all (marks_undone t logs) ≡ true → none_selected (outside_of (part_undone t logs) (mixed t logs)) ≡ true
none-selected-left t logs every = none-outside print_of (mixed t logs) every

-- pairs of what isn't undone, by its marks
pub pairs-by-marks : (t : Taken) (logs : List NamedLog) (marks : List Bool) → marks ≡ marks_undone t logs → pairs_of (outside_by marks (mixed t logs)) ≡ pairs_left t logs
pairs-by-marks t logs marks same =
    ap (λ (bs : List Bool). pairs_of (outside_by bs (mixed t logs))) same ∙ ap pairs_of (outside_part (mixed t logs) (part_undone t logs) (part-undoable print_of (mixed t logs)).within)

-- ---- what is merged

-- rows aren't merged
pub unmerged-out : {A : Type 0} (t : Taken) (logs : List NamedLog) (touched : ℕ) (cause : PartFault A) → are_all (marks_undone t logs) ≡ false → IsUnmerged cause → MergesOut {A = A} t logs touched (Err cause)
unmerged-out t logs touched (UnknownSince lines) out none = absurd none
unmerged-out t logs touched (Run (run.Log f)) out is = is
unmerged-out t logs touched (Run run.Read) out none = absurd none
unmerged-out t logs touched (Run run.Write) out none = absurd none
unmerged-out t logs touched (Sums f) out none = absurd none
unmerged-out t logs touched (NoEventAt pos) out none = absurd none
unmerged-out t logs touched (NoUnitAt place) out none = absurd none
unmerged-out t logs touched (NoUnitWithGtid gtid) out none = absurd none
unmerged-out t logs touched (Log f) out none = absurd none
unmerged-out t logs touched (LaterLog n f) out none = absurd none
unmerged-out t logs touched (ChangedSince rows lines) out none = absurd none
unmerged-out t logs touched (NoSchema told) out none = absurd none
unmerged-out t logs touched (Unmerged lines) out is = out
unmerged-out t logs touched NothingSelected out none = absurd none
unmerged-out t logs touched TooLong out none = absurd none

-- the rows that stay aren't written
pub rest-unwritten : {A : Type 0} (t : Taken) (logs : List NamedLog) (touched : ℕ) (text : List ℕ) (cause : PartFault A) → are_all (marks_undone t logs) ≡ false → LeavesRows {A = A} text (Err cause) → MergesOut {A = A} t logs touched (Err cause)
rest-unwritten t logs touched text TooLong out long = out
rest-unwritten t logs touched text (Run (run.Log f)) out is = is
rest-unwritten t logs touched text (Run run.Read) out none = absurd none
rest-unwritten t logs touched text (Run run.Write) out none = absurd none
rest-unwritten t logs touched text (Sums f) out none = absurd none
rest-unwritten t logs touched text (NoEventAt pos) out none = absurd none
rest-unwritten t logs touched text (NoUnitAt place) out none = absurd none
rest-unwritten t logs touched text (NoUnitWithGtid gtid) out none = absurd none
rest-unwritten t logs touched text (Log f) out none = absurd none
rest-unwritten t logs touched text (LaterLog n f) out none = absurd none
rest-unwritten t logs touched text (ChangedSince rows lines) out none = absurd none
rest-unwritten t logs touched text (UnknownSince lines) out none = absurd none
rest-unwritten t logs touched text (NoSchema told) out none = absurd none
rest-unwritten t logs touched text (Unmerged lines) out none = absurd none
rest-unwritten t logs touched text NothingSelected out none = absurd none

-- ---- by what was recorded

is-known : {A : Type 0} (t : Taken) (logs : List NamedLog) (recorded : Recorded A) → AreRecorded t logs true recorded → recorded.since.unknown ≡ 0 → recorded.since.is_damaged ≡ false → IsKnown t logs
is-known t logs recorded are known whole = record {
  known = none-left (unknown_units (tables_taken t) (after t logs)) (none-more recorded.since.unknown _ are.seen.unknown known);
  whole = sym are.seen.damaged ∙ whole;
}

pub not-known : {A R : Type 0} (known : R → Option (List ℕ)) (givens : List (GivenLog R)) (t : Taken) (recorded : Recorded A) (lines : Vec ℕ A) → RecordsAfter known givens t true (Ok recorded) → (0 < recorded.since.unknown) ⊎ (recorded.since.is_damaged ≡ true)
    → MergesAfter {A = A} known givens t (Err (UnknownSince lines))
not-known known givens t recorded lines (logs, read, are) is = (logs, read, unknown-left t logs true recorded are is)

pub all-merged : {A R : Type 0} (known : R → Option (List ℕ)) (givens : List (GivenLog R)) (t : Taken) (recorded : Recorded A) (merging : Option (Merging A)) → recorded.since.unknown ≡ 0 → recorded.since.is_damaged ≡ false
    → RecordsAfter known givens t true (Ok recorded) → ((logs : List NamedLog) → AreRecorded t logs true recorded → KeepsPairs t logs recorded.tracked.followed → MergesOut t logs recorded.since.touched (Ok merging))
    → MergesAfter known givens t (Ok (record { since = recorded.since; merging = merging }))
all-merged known givens t recorded merging clear whole (logs, read, are) merges =
    (logs, read, (is-known t logs recorded are clear whole, told-since t logs (touches_among (steps_after t logs)) (tables_taken t) recorded.since refl are.seen, merges logs are (are.pairs refl)))

pub none-merged : {A R : Type 0} (known : R → Option (List ℕ)) (givens : List (GivenLog R)) (t : Taken) (recorded : Recorded A) (cause : PartFault A) → recorded.since.unknown ≡ 0 → recorded.since.is_damaged ≡ false
    → RecordsAfter known givens t true (Ok recorded) → ((logs : List NamedLog) → AreRecorded t logs true recorded → KeepsPairs t logs recorded.tracked.followed → MergesOut t logs recorded.since.touched (Err cause)) → MergesAfter {A = A} known givens t (Err cause)
none-merged known givens t recorded (ChangedSince rows lines) clear whole (logs, read, are) merges = let (is, none) = merges logs are (are.pairs refl) in (logs, read, (is ∙ are.seen.touched, none))
none-merged known givens t recorded (UnknownSince lines) clear whole (logs, read, are) merges = absurd (merges logs are (are.pairs refl))
none-merged known givens t recorded TooLong clear whole (logs, read, are) merges = (logs, read, (is-known t logs recorded are clear whole, merges logs are (are.pairs refl)))
none-merged known givens t recorded (Run (run.Log f)) clear whole (logs, read, are) merges = merges logs are (are.pairs refl)
none-merged known givens t recorded (Run run.Read) clear whole (logs, read, are) merges = absurd (merges logs are (are.pairs refl))
none-merged known givens t recorded (Run run.Write) clear whole (logs, read, are) merges = absurd (merges logs are (are.pairs refl))
none-merged known givens t recorded (Sums f) clear whole (logs, read, are) merges = absurd (merges logs are (are.pairs refl))
none-merged known givens t recorded (NoEventAt pos) clear whole (logs, read, are) merges = absurd (merges logs are (are.pairs refl))
none-merged known givens t recorded (NoUnitAt place) clear whole (logs, read, are) merges = absurd (merges logs are (are.pairs refl))
none-merged known givens t recorded (NoUnitWithGtid gtid) clear whole (logs, read, are) merges = absurd (merges logs are (are.pairs refl))
none-merged known givens t recorded (Log f) clear whole (logs, read, are) merges = absurd (merges logs are (are.pairs refl))
none-merged known givens t recorded (LaterLog n f) clear whole (logs, read, are) merges = absurd (merges logs are (are.pairs refl))
none-merged known givens t recorded (NoSchema text) clear whole (logs, read, are) merges = absurd (merges logs are (are.pairs refl))
none-merged known givens t recorded (Unmerged lines) clear whole (logs, read, are) merges = (logs, read, (is-known t logs recorded are clear whole, merges logs are (are.pairs refl)))
none-merged known givens t recorded NothingSelected clear whole (logs, read, are) merges = absurd (merges logs are (are.pairs refl))

pub not-recorded-merged : {A R : Type 0} (known : R → Option (List ℕ)) (givens : List (GivenLog R)) (t : Taken) (cause : PartFault A) → RecordsAfter {A = A} known givens t true (Err cause) → MergesAfter {A = A} known givens t (Err cause)
not-recorded-merged known givens t (LaterLog n f) fails = fails
not-recorded-merged known givens t (Run (run.Log f)) is = is
not-recorded-merged known givens t (Run run.Read) none = absurd none
not-recorded-merged known givens t (Run run.Write) none = absurd none
not-recorded-merged known givens t (Sums f) none = absurd none
not-recorded-merged known givens t (NoEventAt pos) none = absurd none
not-recorded-merged known givens t (NoUnitAt place) none = absurd none
not-recorded-merged known givens t (NoUnitWithGtid gtid) none = absurd none
not-recorded-merged known givens t (Log f) none = absurd none
not-recorded-merged known givens t (ChangedSince rows lines) none = absurd none
not-recorded-merged known givens t (UnknownSince lines) none = absurd none
not-recorded-merged known givens t TooLong none = absurd none
not-recorded-merged known givens t (NoSchema text) none = absurd none
not-recorded-merged known givens t (Unmerged lines) none = absurd none
not-recorded-merged known givens t NothingSelected none = absurd none

-- ---- writing

-- all changes are undone
pub all-written : {A R : Type 0} (known : R → Option (List ℕ)) (givens : List (GivenLog R)) (w : Writing) (name : Names) (t : Taken) (had has : Option (List ℕ)) (seen : SeenToMerge A) (bytes : List ℕ) (r : Result (Vec ℕ A) (PartFault A))
    → MergesAfter known givens t (Ok seen) → seen.merging ≡ None → bytes ≡ t.log → WritesIndex w name (Some (since_seen seen.since)) bytes all had has r → WritesMerged known givens w name t had has r
all-written known givens w name t had has seen bytes r (logs, read, (clear, since, rest)) none same is =
    let every : are_all (marks_undone t logs) ≡ true = subst (HasMerging t logs) none rest in
    let telling : Option Since → List ℕ → List ℕ = λ s b. report_told w name s b all in (
      t.log,
      planned true known givens w (plan_merged w name t t.log) ⊤ (λ cause. ⊥) had has logs (telling (Some (since_seen seen.since)) bytes) bytes all r tt read
          (record { merges = undoes-and-merges-by print_of (mixed t logs); written = inl (every, refl); known = clear })
          same refl (λ long. (clear, inr long))
          (λ told told_is. inl (every, told_is ∙ (λ i. telling (since i) (same i)))) is,
    )

-- rows are merged
pub merged-written : {A R : Type 0} (known : R → Option (List ℕ)) (givens : List (GivenLog R)) (w : Writing) (name : Names) (t : Taken) (had has : Option (List ℕ)) (seen : SeenToMerge A) (merging : Merging A) (index : Index A) (r : Result (Vec ℕ A) (PartFault A))
    → MergesAfter known givens t (Ok seen) → seen.merging ≡ Some merging → index_bytes index ≡ t.log → index_selection index ≡ all
    → WritesGroups w (merging_told w name index (Some (since_seen seen.since)) (bytes_merged merging.log) ++ merging.told.items) (bytes_merged merging.log) all had has r → WritesMerged known givens w name t had has r
merged-written known givens w name t had has seen merging index r (logs, read, (clear, since, left)) some same whole writes =
    let (out, written, (lines, told_is)) : HasMerging t logs (Some merging) = subst (HasMerging t logs) some left in
    let log : List ℕ = bytes_merged merging.log in
    let telling : merging_told w name index (Some (since_seen seen.since)) log ≡ report_merged w name t logs log = told-alike w name index t logs (Some (since_seen seen.since)) log same whole since in (
      log,
      planned true known givens w (plan_merged w name t log) ⊤ (λ cause. ⊥) had has logs (merging_told w name index (Some (since_seen seen.since)) log ++ merging.told.items) log all r tt read
          (record { merges = undoes-and-merges-by print_of (mixed t logs); written = written; known = clear })
          refl refl (λ long. (clear, inr long))
          (λ told is. inr (out, (lines, is ∙ (λ i. telling i ++ told_is i)))) writes,
    )
  where
    told-alike : {A : Type 0} (w : Writing) (name : Names) (index : Index A) (t : Taken) (logs : List NamedLog) (since : Option Since) (log : List ℕ) → index_bytes index ≡ t.log → index_selection index ≡ all → since ≡ since_told true t logs
        → merging_told w name index since log ≡ report_merged w name t logs log
    told-alike w name index t logs since log same whole is = λ i. report w.order name (length (groups (same i) (whole i))) (counts_of (groups log all)) (is i)
