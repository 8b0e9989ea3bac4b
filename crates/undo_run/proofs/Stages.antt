-- What comes of writing what is taken out of a log, by what comes of each step.
use Rattle.std.proofs.Common.{◌≡◌, ◌<◌, ℕ, Bool, true, false, ◌&&◌, List, [], length, Option, Some, None, Result, Ok, Err, refl, sym, ap, subst, ◌∙◌, inl, inr}
use Rattle.std.specs.Prelude.{⊤, Vec, option_map}
use Rattle.std.specs.Io.KnownBytes.{Keeps}
use Rattle.std.proofs.lemmas.Bool.{false≢true}
use Rattle.std.proofs.lemmas.List.{length-map}
use Rattle.blog_device.specs.declared.fault.RunFault.TheVariants as run
use Rattle.blog_event.specs.declared.fault.Fault.TheVariants.{OutOfMemory}
use Rattle.blog_run.specs.Writing.{end_of_text}
use Rattle.blog_run.specs.declared.writing.Writing.{Writing}
use Rattle.blog_source.specs.code.SourceView.{end_of, fault_of, log_of}
use Rattle.blog_sum.specs.declared.fault.SumFault.{SumFault}
use Rattle.blog_trans.specs.Groups.{groups, placed_groups, transaction_value}
use Rattle.blog_trans.specs.Selection.{Selection}
use Rattle.blog_units.specs.Units.{Facts}
use Rattle.list_run.specs.Listed.{NamedLog}
use Rattle.list_run.specs.declared.given.GivenLog.{GivenLog}
use Rattle.undo_run.specs.Parts.{Refuses as RefusesAll, RefusesStart, damage_before, has_start, reading_of, selection_in}
use Rattle.undo_run.specs.Reports.{Since}
use Rattle.undo_run.specs.Several.{Joined, Names, OfLogs, part_among, starts_in_first}
use Rattle.undo_run.specs.Taken.{AreLater, IsSafeIf, OfLater, Plan, Taken, WritesBy, plan_taken, since_told}
use Rattle.undo_run.specs.Units.{LacksUnit, RefusesChosen, RefusesUnits, is_asked}
use Rattle.undo_run.specs.Leaving.{plan_left}
use Rattle.undo_run.specs.Merging.{plan_merged}
use Rattle.undo_run.specs.Writes.{FailsJoined, IsLocated, IsLocatedIn, WritesHanded, WritesJoined, WritesPart, is_failed_write, plan_by}
use Rattle.undo_run.specs.code.Leaves.{Leaves, WritesLeft}
use Rattle.undo_run.specs.code.Merges.{MergesAfter, WritesMerged}
use Rattle.undo_run.specs.code.NamesView.{names_told}
use Rattle.undo_run.specs.code.Reading.{IsJoined, OpensLogs}
use Rattle.undo_run.specs.code.SinceView.{since_seen}
use Rattle.undo_run.specs.code.Steps.{Chooses, Looks, WritesGroups, WritesIndex, report_told}
use Rattle.undo_run.specs.declared.fault.LogsFault.{LogsFault}
use Rattle.undo_run.specs.declared.fault.LogsFault.TheVariants.{Opening, Further, Part}
use Rattle.undo_run.specs.declared.fault.PartFault.{PartFault}
use Rattle.undo_run.specs.declared.fault.PartFault.TheVariants.{Run, Sums, NoEventAt, NoUnitAt, NoUnitWithGtid, Log, NothingSelected, LaterLog, ChangedSince, UnknownSince, Unmerged, TooLong, NoSchema}
use Rattle.undo_run.specs.declared.request.UnitRequest.{UnitRequest}
use Rattle.undo_run.specs.declared.several.Logs.{Logs}
use Rattle.undo_run.specs.declared.since.Since as told
use Rattle.undo_run.proofs.Joining.{of-logs}

-- ---- what is taken

pub how-many : (bytes : List ℕ) (sel : Selection) → length (groups bytes sel) ≡ length (placed_groups bytes sel)
unfolding groups
how-many bytes sel = length-map (placed_groups bytes sel) transaction_value

-- what was seen, where it was asked for, is what is told, and touches nothing
abbrev IsFree : {R : Type 0} → Bool → (R → Option (List ℕ)) → List (GivenLog R) → Taken → Option Since → Type 0
IsFree looks known givens t since = OfLater looks known givens (λ logs. IsSafeIf looks t logs × (since ≡ since_told looks t logs))

pub are-free : (A : Type 0) {R : Type 0} (looks : Bool) (known : R → Option (List ℕ)) (givens : List (GivenLog R)) (t : Taken) (since : Option (told.Since A))
    → Looks {A = A} looks known givens t (Ok since) → IsFree looks known givens t (option_map since_seen since)
are-free A true known givens t (Some since) (logs, read, (safe, told)) = (logs, read, ((λ asked. safe), told))
are-free A true known givens t None is = absurd is
are-free A false known givens t since is = ([], refl, ((λ asked. absurd (false≢true asked)), ap (option_map (since_seen {A = A})) is))

-- the groups of a log are written by a plan
pub planned : {A R : Type 0} (looks : Bool) (known : R → Option (List ℕ)) (givens : List (GivenLog R)) (w : Writing) (p : Plan) (Sound : Type 0) (Refuses : PartFault A → Type 0) (had has : Option (List ℕ)) (logs : List NamedLog) (telling bytes : List ℕ)
    (sel : Selection) (r : Result (Vec ℕ A) (PartFault A)) → Sound → AreLater looks known givens logs → p.safe logs → bytes ≡ p.log logs → sel ≡ p.sel → (4294967295 < end_of_text w.sql w.order w.limit (p.log logs) p.sel → p.long logs)
    → ((told : List ℕ) → told ≡ telling → p.told logs told) → WritesGroups w telling bytes sel had has r → WritesBy looks known givens w p Sound Refuses had has r
planned looks known givens w p Sound Refuses had has logs telling bytes sel r sound read safe same chosen long tells is =
    by_groups r (subst (λ (s : Selection). WritesGroups w telling (p.log logs) s had has r) chosen (subst (λ (b : List ℕ). WritesGroups w telling b sel had has r) same is))
  where
    by_groups : (a : Result (Vec ℕ _) (PartFault _)) → WritesGroups w telling (p.log logs) p.sel had has a → WritesBy looks known givens w p Sound Refuses had has a
    by_groups (Ok told) (can, text, telling_is) = (sound, (logs, read, ((safe, can), text, tells told.items telling_is)))
    by_groups (Err (Run run.Write)) (can, text) = (sound, (logs, read, ((safe, can), text)))
    by_groups (Err (Run run.Read)) none = absurd none
    by_groups (Err (Run (run.Log f))) refused = refused
    by_groups (Err TooLong) (is_long, keeps) = (inl (sound, (logs, read, long is_long)), keeps)
    by_groups (Err (NoSchema text)) (lacks, keeps) = ((sound, (logs, read, (safe, lacks))), keeps)
    by_groups (Err (LaterLog n f)) none = absurd none
    by_groups (Err (ChangedSince rows lines)) none = absurd none
    by_groups (Err (UnknownSince lines)) none = absurd none
    by_groups (Err (NoEventAt pos)) none = absurd none
    by_groups (Err (NoUnitAt place)) none = absurd none
    by_groups (Err (NoUnitWithGtid gtid)) none = absurd none
    by_groups (Err (Sums f)) none = absurd none
    by_groups (Err (Log f)) none = absurd none
    by_groups (Err NothingSelected) none = absurd none
    by_groups (Err (Unmerged lines)) none = absurd none

pub taken-written : {A R : Type 0} (looks : Bool) (known : R → Option (List ℕ)) (givens : List (GivenLog R)) (w : Writing) (name : Names) (t : Taken) (Sound : Type 0) (Refuses : PartFault A → Type 0) (had has : Option (List ℕ)) (since : Option (told.Since A))
    (bytes : List ℕ) (sel : Selection) (r : Result (Vec ℕ A) (PartFault A)) → Sound → Looks {A = A} looks known givens t (Ok since) → bytes ≡ t.log → sel ≡ t.sel
    → WritesIndex w name (option_map since_seen since) bytes sel had has r → WritesBy looks known givens w (plan_taken looks w name t) Sound Refuses had has r
taken-written {A = A} looks known givens w name t Sound Refuses had has since bytes sel r sound looked same chosen is =
    let (logs, read, (safe, seen)) = are-free A looks known givens t since looked in
    let telling : Option Since → List ℕ = λ s. report_told w name s t.log t.sel in
    planned looks known givens w (plan_taken looks w name t) Sound Refuses had has logs (telling (option_map since_seen since)) t.log t.sel r sound read safe refl refl (λ long. (safe, long)) (λ told told_is. told_is ∙ ap telling seen)
    (subst (λ (s : Selection). WritesIndex w name (option_map since_seen since) t.log s had has r) chosen
    (subst (λ (b : List ℕ). WritesIndex w name (option_map since_seen since) b sel had has r) same is))

-- what came later can't be looked at, or touches it
pub not-free : {A R : Type 0} (looks : Bool) (known : R → Option (List ℕ)) (givens : List (GivenLog R)) (w : Writing) (name : Names) (t : Taken) (Sound : Type 0) (Refuses : PartFault A → Type 0) (had has : Option (List ℕ)) (cause : PartFault A)
    → Sound → Looks looks known givens t (Err cause) → Keeps had has → WritesBy looks known givens w (plan_taken looks w name t) Sound Refuses had has (Err cause)
not-free false known givens w name t Sound Refuses had has cause sound none keeps = absurd none
not-free true known givens w name t Sound Refuses had has (ChangedSince rows lines) sound (logs, read, changed) keeps = ((sound, (logs, read, (refl, changed))), keeps)
not-free true known givens w name t Sound Refuses had has (UnknownSince lines) sound (logs, read, unknown) keeps = ((sound, (logs, read, (refl, unknown))), keeps)
not-free true known givens w name t Sound Refuses had has (LaterLog n f) sound fails keeps = ((sound, refl, fails), keeps)
not-free true known givens w name t Sound Refuses had has (Run (run.Log f)) sound is keeps = (is, keeps)
not-free true known givens w name t Sound Refuses had has (Run run.Read) sound none keeps = absurd none
not-free true known givens w name t Sound Refuses had has (Run run.Write) sound none keeps = absurd none
not-free true known givens w name t Sound Refuses had has (Sums f) sound none keeps = absurd none
not-free true known givens w name t Sound Refuses had has (NoEventAt pos) sound none keeps = absurd none
not-free true known givens w name t Sound Refuses had has (NoUnitAt place) sound none keeps = absurd none
not-free true known givens w name t Sound Refuses had has (NoUnitWithGtid gtid) sound none keeps = absurd none
not-free true known givens w name t Sound Refuses had has (Log f) sound none keeps = absurd none
not-free true known givens w name t Sound Refuses had has (NoSchema text) sound none keeps = absurd none
not-free true known givens w name t Sound Refuses had has (Unmerged lines) sound none keeps = absurd none
not-free true known givens w name t Sound Refuses had has NothingSelected sound none keeps = absurd none
not-free true known givens w name t Sound Refuses had has TooLong sound none keeps = absurd none

pub no-write-failed : {A R : Type 0} (X : Type 0) (looks : Bool) (known : R → Option (List ℕ)) (givens : List (GivenLog R)) (t : Taken) (cause : PartFault A) → Looks looks known givens t (Err cause) → is_failed_write {A = A} {X = X} (Err cause) ≡ false
no-write-failed X false known givens t cause none = absurd none
no-write-failed X true known givens t (ChangedSince rows lines) is = refl
no-write-failed X true known givens t (UnknownSince lines) is = refl
no-write-failed X true known givens t (LaterLog n f) is = refl
no-write-failed X true known givens t (Run (run.Log f)) is = refl
no-write-failed X true known givens t (Run run.Read) is = refl
no-write-failed X true known givens t (Run run.Write) none = absurd none
no-write-failed X true known givens t (Sums f) is = refl
no-write-failed X true known givens t (NoEventAt pos) is = refl
no-write-failed X true known givens t (NoUnitAt place) is = refl
no-write-failed X true known givens t (NoUnitWithGtid gtid) is = refl
no-write-failed X true known givens t (Log f) is = refl
no-write-failed X true known givens t (NoSchema text) is = refl
no-write-failed X true known givens t (Unmerged lines) is = refl
no-write-failed X true known givens t NothingSelected is = refl
no-write-failed X true known givens t TooLong is = refl

-- ---- where rows may be left

-- written by a plan, as some log
abbrev WritesSome : {A R : Type 0} → Bool → Bool → Bool → (R → Option (List ℕ)) → List (GivenLog R) → Writing → Names → Taken → Type 0 → (PartFault A → Type 0) → Option (List ℕ) → Option (List ℕ) → Result (Vec ℕ A) (PartFault A) → Type 0
WritesSome merges leaves looks known givens w name t Sound Refuses had has r = (log : List ℕ) × WritesBy looks known givens w (plan_by merges leaves looks w name t log) Sound Refuses had has r

-- none are
pub by-all : {A R : Type 0} (m b looks : Bool) (known : R → Option (List ℕ)) (givens : List (GivenLog R)) (w : Writing) (name : Names) (t : Taken) (Sound : Type 0) (Refuses : PartFault A → Type 0) (had has : Option (List ℕ)) (r : Result (Vec ℕ A) (PartFault A))
    → m ≡ false → b ≡ false → WritesBy looks known givens w (plan_taken looks w name t) Sound Refuses had has r → WritesSome m b looks known givens w name t Sound Refuses had has r
by-all m b looks known givens w name t Sound Refuses had has r d e is = (
  [],
  subst (λ (k : Bool). WritesBy looks known givens w (plan_by k b looks w name t []) Sound Refuses had has r) (sym d)
      (subst (λ (c : Bool). WritesBy looks known givens w (plan_by false c looks w name t []) Sound Refuses had has r) (sym e) is),
)

-- what is written of units that are sound
sound-written : {A R : Type 0} (looks : Bool) (known : R → Option (List ℕ)) (givens : List (GivenLog R)) (w : Writing) (p : Plan) (Sound : Type 0) (Refuses : PartFault A → Type 0) (had has : Option (List ℕ)) (r : Result (Vec ℕ A) (PartFault A))
    → Sound → WritesBy looks known givens w p ⊤ (λ cause. ⊥) had has r → WritesBy looks known givens w p Sound Refuses had has r
sound-written looks known givens w p Sound Refuses had has (Ok told) sound (done, is) = (sound, is)
sound-written looks known givens w p Sound Refuses had has (Err (Run run.Write)) sound (done, is) = (sound, is)
sound-written looks known givens w p Sound Refuses had has (Err (Run run.Read)) sound none = absurd none
sound-written looks known givens w p Sound Refuses had has (Err (Run (run.Log f))) sound is = is
sound-written looks known givens w p Sound Refuses had has (Err TooLong) sound (inl (done, is), keeps) = (inl (sound, is), keeps)
sound-written looks known givens w p Sound Refuses had has (Err TooLong) sound (inr none, keeps) = absurd none
sound-written looks known givens w p Sound Refuses had has (Err (NoSchema text)) sound ((done, is), keeps) = ((sound, is), keeps)
sound-written looks known givens w p Sound Refuses had has (Err (LaterLog n f)) sound ((done, asked, is), keeps) = ((sound, asked, is), keeps)
sound-written looks known givens w p Sound Refuses had has (Err (ChangedSince rows lines)) sound ((done, is), keeps) = ((sound, is), keeps)
sound-written looks known givens w p Sound Refuses had has (Err (UnknownSince lines)) sound ((done, is), keeps) = ((sound, is), keeps)
sound-written looks known givens w p Sound Refuses had has (Err (NoEventAt pos)) sound (none, keeps) = absurd none
sound-written looks known givens w p Sound Refuses had has (Err (NoUnitAt place)) sound (none, keeps) = absurd none
sound-written looks known givens w p Sound Refuses had has (Err (NoUnitWithGtid gtid)) sound (none, keeps) = absurd none
sound-written looks known givens w p Sound Refuses had has (Err (Sums f)) sound (none, keeps) = absurd none
sound-written looks known givens w p Sound Refuses had has (Err (Log f)) sound (none, keeps) = absurd none
sound-written looks known givens w p Sound Refuses had has (Err NothingSelected) sound (none, keeps) = absurd none
sound-written looks known givens w p Sound Refuses had has (Err (Unmerged lines)) sound ((done, is), keeps) = ((sound, is), keeps)

-- rows may be
pub by-left : {A R : Type 0} (m looks leaves : Bool) (known : R → Option (List ℕ)) (givens : List (GivenLog R)) (w : Writing) (name : Names) (t : Taken) (Sound : Type 0) (Refuses : PartFault A → Type 0) (had has : Option (List ℕ)) (r : Result (Vec ℕ A) (PartFault A))
    → m ≡ false → (looks && leaves) ≡ true → Sound → WritesLeft known givens w name t had has r → WritesSome m (looks && leaves) looks known givens w name t Sound Refuses had has r
by-left false true true known givens w name t Sound Refuses had has r d e sound is = ([], sound-written true known givens w (plan_left w name t) Sound Refuses had has r sound is)
by-left false true false known givens w name t Sound Refuses had has r d e sound is = absurd (false≢true e)
by-left false false leaves known givens w name t Sound Refuses had has r d e sound is = absurd (false≢true e)
by-left true looks leaves known givens w name t Sound Refuses had has r d e sound is = absurd (false≢true (sym d))

-- or merged
pub by-merged : {A R : Type 0} (looks merges leaves : Bool) (known : R → Option (List ℕ)) (givens : List (GivenLog R)) (w : Writing) (name : Names) (t : Taken) (Sound : Type 0) (Refuses : PartFault A → Type 0) (had has : Option (List ℕ)) (r : Result (Vec ℕ A) (PartFault A))
    → (looks && merges) ≡ true → Sound → WritesMerged known givens w name t had has r → WritesSome (looks && merges) leaves looks known givens w name t Sound Refuses had has r
by-merged true true leaves known givens w name t Sound Refuses had has r e sound (log, is) = (log, sound-written true known givens w (plan_merged w name t log) Sound Refuses had has r sound is)
by-merged true false leaves known givens w name t Sound Refuses had has r e sound is = absurd (false≢true e)
by-merged false merges leaves known givens w name t Sound Refuses had has r e sound is = absurd (false≢true e)

-- what came later keeps it back that they are
pub not-merged : {A R : Type 0} (known : R → Option (List ℕ)) (givens : List (GivenLog R)) (w : Writing) (name : Names) (t : Taken) (had has : Option (List ℕ)) (cause : PartFault A) → MergesAfter {A = A} known givens t (Err cause) → Keeps had has
    → WritesMerged known givens w name t had has (Err cause)
not-merged known givens w name t had has (ChangedSince rows lines) is keeps = ([], ((tt, is), keeps))
not-merged known givens w name t had has (UnknownSince lines) is keeps = ([], ((tt, is), keeps))
not-merged known givens w name t had has TooLong (logs, read, (safe, out)) keeps = ([], (inl (tt, (logs, read, (safe, inl out))), keeps))
not-merged known givens w name t had has (LaterLog n f) fails keeps = ([], ((tt, refl, fails), keeps))
not-merged known givens w name t had has (Run (run.Log f)) is keeps = ([], (is, keeps))
not-merged known givens w name t had has (Run run.Read) none keeps = absurd none
not-merged known givens w name t had has (Run run.Write) none keeps = absurd none
not-merged known givens w name t had has (Sums f) none keeps = absurd none
not-merged known givens w name t had has (NoEventAt pos) none keeps = absurd none
not-merged known givens w name t had has (NoUnitAt place) none keeps = absurd none
not-merged known givens w name t had has (NoUnitWithGtid gtid) none keeps = absurd none
not-merged known givens w name t had has (Log f) none keeps = absurd none
not-merged known givens w name t had has (NoSchema text) none keeps = absurd none
not-merged known givens w name t had has (Unmerged lines) is keeps = ([], ((tt, is), keeps))
not-merged known givens w name t had has NothingSelected none keeps = absurd none

pub no-merge-failed : {A R : Type 0} (X : Type 0) (known : R → Option (List ℕ)) (givens : List (GivenLog R)) (t : Taken) (cause : PartFault A) → MergesAfter {A = A} known givens t (Err cause) → is_failed_write {A = A} {X = X} (Err cause) ≡ false
no-merge-failed X known givens t (Run run.Write) none = absurd none
no-merge-failed X known givens t (Run run.Read) is = refl
no-merge-failed X known givens t (Run (run.Log f)) is = refl
no-merge-failed X known givens t (ChangedSince rows lines) is = refl
no-merge-failed X known givens t (UnknownSince lines) is = refl
no-merge-failed X known givens t (LaterLog n f) is = refl
no-merge-failed X known givens t (Sums f) is = refl
no-merge-failed X known givens t (NoEventAt pos) is = refl
no-merge-failed X known givens t (NoUnitAt place) is = refl
no-merge-failed X known givens t (NoUnitWithGtid gtid) is = refl
no-merge-failed X known givens t (Log f) is = refl
no-merge-failed X known givens t (NoSchema text) is = refl
no-merge-failed X known givens t (Unmerged lines) is = refl
no-merge-failed X known givens t NothingSelected is = refl
no-merge-failed X known givens t TooLong is = refl

-- what came later keeps them back
pub not-left : {A R : Type 0} (known : R → Option (List ℕ)) (givens : List (GivenLog R)) (w : Writing) (name : Names) (t : Taken) (had has : Option (List ℕ)) (cause : PartFault A) → Leaves {A = A} known givens t (Err cause) → Keeps had has
    → WritesLeft known givens w name t had has (Err cause)
not-left known givens w name t had has (ChangedSince rows lines) is keeps = ((tt, is), keeps)
not-left known givens w name t had has (UnknownSince lines) is keeps = ((tt, is), keeps)
not-left known givens w name t had has TooLong (logs, read, (safe, long)) keeps = (inl (tt, (logs, read, (safe, inl long))), keeps)
not-left known givens w name t had has (LaterLog n f) fails keeps = ((tt, refl, fails), keeps)
not-left known givens w name t had has (Run (run.Log f)) is keeps = (is, keeps)
not-left known givens w name t had has (Run run.Read) none keeps = absurd none
not-left known givens w name t had has (Run run.Write) none keeps = absurd none
not-left known givens w name t had has (Sums f) none keeps = absurd none
not-left known givens w name t had has (NoEventAt pos) none keeps = absurd none
not-left known givens w name t had has (NoUnitAt place) none keeps = absurd none
not-left known givens w name t had has (NoUnitWithGtid gtid) none keeps = absurd none
not-left known givens w name t had has (Log f) none keeps = absurd none
not-left known givens w name t had has (NoSchema text) none keeps = absurd none
not-left known givens w name t had has (Unmerged lines) none keeps = absurd none
not-left known givens w name t had has NothingSelected none keeps = absurd none

pub no-left-failed : {A R : Type 0} (X : Type 0) (known : R → Option (List ℕ)) (givens : List (GivenLog R)) (t : Taken) (cause : PartFault A) → Leaves {A = A} known givens t (Err cause) → is_failed_write {A = A} {X = X} (Err cause) ≡ false
no-left-failed X known givens t (Run run.Write) none = absurd none
no-left-failed X known givens t (Run run.Read) is = refl
no-left-failed X known givens t (Run (run.Log f)) is = refl
no-left-failed X known givens t (ChangedSince rows lines) is = refl
no-left-failed X known givens t (UnknownSince lines) is = refl
no-left-failed X known givens t (LaterLog n f) is = refl
no-left-failed X known givens t (Sums f) is = refl
no-left-failed X known givens t (NoEventAt pos) is = refl
no-left-failed X known givens t (NoUnitAt place) is = refl
no-left-failed X known givens t (NoUnitWithGtid gtid) is = refl
no-left-failed X known givens t (Log f) is = refl
no-left-failed X known givens t (NoSchema text) is = refl
no-left-failed X known givens t (Unmerged lines) is = refl
no-left-failed X known givens t NothingSelected is = refl
no-left-failed X known givens t TooLong is = refl

-- ---- refusals

-- it isn't selected
abbrev pub IsRefused : {A : Type 0} → (PartFault A → Type 0) → PartFault A → Type 0
IsRefused Refuses (Run (run.Log f)) = f ≡ OutOfMemory
IsRefused Refuses (NoEventAt pos) = Refuses (NoEventAt pos)
IsRefused Refuses (NoUnitAt place) = Refuses (NoUnitAt place)
IsRefused Refuses (NoUnitWithGtid gtid) = Refuses (NoUnitWithGtid gtid)
IsRefused Refuses (Sums f) = Refuses (Sums f)
IsRefused Refuses (Log f) = Refuses (Log f)
IsRefused Refuses NothingSelected = Refuses NothingSelected
IsRefused Refuses TooLong = Refuses TooLong
IsRefused Refuses cause = ⊥

pub not-selected : {A R : Type 0} (looks : Bool) (known : R → Option (List ℕ)) (givens : List (GivenLog R)) (w : Writing) (p : Plan) (Sound : Type 0) (Refuses : PartFault A → Type 0) (had has : Option (List ℕ)) (cause : PartFault A)
    → IsRefused Refuses cause → Keeps had has → WritesBy looks known givens w p Sound Refuses had has (Err cause)
not-selected looks known givens w p Sound Refuses had has (Run (run.Log f)) is keeps = (is, keeps)
not-selected looks known givens w p Sound Refuses had has (NoEventAt pos) is keeps = (is, keeps)
not-selected looks known givens w p Sound Refuses had has (NoUnitAt place) is keeps = (is, keeps)
not-selected looks known givens w p Sound Refuses had has (NoUnitWithGtid gtid) is keeps = (is, keeps)
not-selected looks known givens w p Sound Refuses had has (Sums f) is keeps = (is, keeps)
not-selected looks known givens w p Sound Refuses had has (Log f) is keeps = (is, keeps)
not-selected looks known givens w p Sound Refuses had has NothingSelected is keeps = (is, keeps)
not-selected looks known givens w p Sound Refuses had has TooLong is keeps = (inr is, keeps)
not-selected looks known givens w p Sound Refuses had has (Run run.Read) none keeps = absurd none
not-selected looks known givens w p Sound Refuses had has (Run run.Write) none keeps = absurd none
not-selected looks known givens w p Sound Refuses had has (LaterLog n f) none keeps = absurd none
not-selected looks known givens w p Sound Refuses had has (ChangedSince rows lines) none keeps = absurd none
not-selected looks known givens w p Sound Refuses had has (UnknownSince lines) none keeps = absurd none
not-selected looks known givens w p Sound Refuses had has (NoSchema text) none keeps = absurd none
not-selected looks known givens w p Sound Refuses had has (Unmerged lines) none keeps = absurd none

-- ---- of a part

part-refused : {A : Type 0} (part : Selection) (handed : List ℕ) (end : ℕ) (damage : Option SumFault) (cause : PartFault A) → RefusesAll part handed end damage cause → IsRefused (RefusesAll part handed end damage) cause
part-refused part handed end damage (NoEventAt pos) is = is
part-refused part handed end damage (NoUnitAt place) none = absurd none
part-refused part handed end damage (NoUnitWithGtid gtid) none = absurd none
part-refused part handed end damage (Sums f) is = is
part-refused part handed end damage (Log f) is = is
part-refused part handed end damage NothingSelected is = is
part-refused part handed end damage (Run f) none = absurd none
part-refused part handed end damage (LaterLog n f) none = absurd none
part-refused part handed end damage (ChangedSince rows lines) none = absurd none
part-refused part handed end damage (UnknownSince lines) none = absurd none
part-refused part handed end damage (NoSchema text) none = absurd none
part-refused part handed end damage (Unmerged lines) none = absurd none
part-refused part handed end damage TooLong none = absurd none

pub all-refused : {A R : Type 0} (looks : Bool) (known : R → Option (List ℕ)) (givens : List (GivenLog R)) (w : Writing) (p : Plan) (Sound : Type 0) (had has : Option (List ℕ)) (part : Selection) (handed : List ℕ) (end : ℕ) (damage : Option SumFault)
    (cause : PartFault A) → RefusesAll part handed end damage cause → Keeps had has → WritesBy looks known givens w p Sound (RefusesAll part handed end damage) had has (Err cause)
all-refused looks known givens w p Sound had has part handed end damage cause is keeps =
    not-selected looks known givens w p Sound (RefusesAll part handed end damage) had has cause (part-refused part handed end damage cause is) keeps

-- ---- of chosen units

pub start-refused : {A : Type 0} (r : UnitRequest) (part : Selection) (handed : List ℕ) (end : ℕ) (fault damage : Option SumFault) (cause : PartFault A) → RefusesStart part handed end fault cause
    → IsRefused (RefusesUnits r part handed end fault damage) cause
start-refused r part handed end fault damage (NoEventAt pos) is = inl is
start-refused r part handed end fault damage (Sums f) is = inl is
start-refused r part handed end fault damage (Run f) none = absurd none
start-refused r part handed end fault damage (NoUnitAt place) none = absurd none
start-refused r part handed end fault damage (NoUnitWithGtid gtid) none = absurd none
start-refused r part handed end fault damage (Log f) none = absurd none
start-refused r part handed end fault damage (LaterLog n f) none = absurd none
start-refused r part handed end fault damage (ChangedSince rows lines) none = absurd none
start-refused r part handed end fault damage (UnknownSince lines) none = absurd none
start-refused r part handed end fault damage (NoSchema text) none = absurd none
start-refused r part handed end fault damage (Unmerged lines) none = absurd none
start-refused r part handed end fault damage NothingSelected none = absurd none
start-refused r part handed end fault damage TooLong none = absurd none

pub unit-lacking : {A : Type 0} (r : UnitRequest) (part : Selection) (handed : List ℕ) (end : ℕ) (fault damage : Option SumFault) (cause : PartFault A) → has_start part handed end ≡ true
    → LacksUnit r (selection_in part handed) handed end (damage_before true part end fault) cause → IsRefused (RefusesUnits r part handed end fault damage) cause
unit-lacking r part handed end fault damage (NoUnitAt place) start is = inr (start, inl is)
unit-lacking r part handed end fault damage (NoUnitWithGtid n) start is = inr (start, inl is)
unit-lacking r part handed end fault damage (Sums f) start is = inr (start, inl is)
unit-lacking r part handed end fault damage (Run f) start none = absurd none
unit-lacking r part handed end fault damage (NoEventAt pos) start none = absurd none
unit-lacking r part handed end fault damage (Log f) start none = absurd none
unit-lacking r part handed end fault damage (LaterLog k f) start none = absurd none
unit-lacking r part handed end fault damage (ChangedSince rows lines) start none = absurd none
unit-lacking r part handed end fault damage (UnknownSince lines) start none = absurd none
unit-lacking r part handed end fault damage (NoSchema text) start none = absurd none
unit-lacking r part handed end fault damage (Unmerged lines) start none = absurd none
unit-lacking r part handed end fault damage NothingSelected start none = absurd none
unit-lacking r part handed end fault damage TooLong start none = absurd none

pub chosen-refused : {A : Type 0} (r : UnitRequest) (part : Selection) (handed : List ℕ) (end : ℕ) (fault damage : Option SumFault) (cause : PartFault A) → has_start part handed end ≡ true
    → RefusesChosen (is_asked r part handed) (selection_in part handed) handed end damage cause → IsRefused (RefusesUnits r part handed end fault damage) cause
chosen-refused r part handed end fault damage (Sums f) start is = inr (start, inr is)
chosen-refused r part handed end fault damage (Log f) start is = inr (start, inr is)
chosen-refused r part handed end fault damage NothingSelected start is = inr (start, inr is)
chosen-refused r part handed end fault damage TooLong start is = inr (start, inr is)
chosen-refused r part handed end fault damage (Run f) start none = absurd none
chosen-refused r part handed end fault damage (NoEventAt pos) start none = absurd none
chosen-refused r part handed end fault damage (NoUnitAt place) start none = absurd none
chosen-refused r part handed end fault damage (NoUnitWithGtid gtid) start none = absurd none
chosen-refused r part handed end fault damage (LaterLog n f) start none = absurd none
chosen-refused r part handed end fault damage (ChangedSince rows lines) start none = absurd none
chosen-refused r part handed end fault damage (UnknownSince lines) start none = absurd none
chosen-refused r part handed end fault damage (NoSchema text) start none = absurd none
chosen-refused r part handed end fault damage (Unmerged lines) start none = absurd none

pub not-chosen : {A : Type 0} (looks : Bool) (r : UnitRequest) (part : Selection) (handed : List ℕ) (end : ℕ) (fault damage : Option SumFault) (cause : PartFault A) → has_start part handed end ≡ true
    → Chooses {A = A} looks (is_asked r part handed) (selection_in part handed) handed end damage (Err cause) → IsRefused (RefusesUnits r part handed end fault damage) cause
not-chosen looks r part handed end fault damage (Run (run.Log f)) start is = is
not-chosen looks r part handed end fault damage (Run run.Read) start none = absurd none
not-chosen looks r part handed end fault damage (Run run.Write) start none = absurd none
not-chosen looks r part handed end fault damage (Sums f) start is = inr (start, inr is)
not-chosen looks r part handed end fault damage (Log f) start is = inr (start, inr is)
not-chosen looks r part handed end fault damage NothingSelected start is = inr (start, inr is)
not-chosen looks r part handed end fault damage TooLong start is = inr (start, inr is)
not-chosen looks r part handed end fault damage (NoEventAt pos) start none = absurd none
not-chosen looks r part handed end fault damage (NoUnitAt place) start none = absurd none
not-chosen looks r part handed end fault damage (NoUnitWithGtid gtid) start none = absurd none
not-chosen looks r part handed end fault damage (LaterLog n f) start none = absurd none
not-chosen looks r part handed end fault damage (ChangedSince rows lines) start none = absurd none
not-chosen looks r part handed end fault damage (UnknownSince lines) start none = absurd none
not-chosen looks r part handed end fault damage (NoSchema text) start none = absurd none
not-chosen looks r part handed end fault damage (Unmerged lines) start none = absurd none

-- what holds of units and a selection of the program holds of those that they are
pub of-units : (P : (Facts → Bool) → Selection → Type 0) (p q : Facts → Bool) (sel there : Selection) → p ≡ q → sel ≡ there → P p sel → P q there
of-units P p q sel there same chosen here = subst (λ (s : Selection). P q s) chosen (subst (λ (test : Facts → Bool). P test sel) same here)

-- ---- of logs that are read

-- a part of them is written, or isn't
pub read-written : {A R S : Type 0} (looks : Bool) (known : R → Option (List ℕ)) (later more : List (GivenLog R)) (w : Writing) (name : List ℕ) (part inside : Selection) (asked : Option UnitRequest) (stop : Option ℕ)
    (old new had has : Option (List ℕ)) (logs : Logs S) (told : Vec ℕ A) → stop ≡ (reading_of looks asked part).stop → OfLogs known stop name more old new (λ j. IsJoined j logs)
    → true ≡ starts_in_first (names_told logs.names).more part.start → inside ≡ part_among (names_told logs.names) part
    → WritesHanded {A = A} looks known later w (names_told logs.names) inside asked (log_of logs.source) (end_of logs.source) (fault_of logs.source) had has (Ok told)
    → WritesPart {A = A} looks known later w name more part asked old new had has (Ok told)
read-written {A = A} looks known later more w name part inside asked stop old new had has logs told stop_is of_logs starts inside_is is =
    subst (λ (s : Option ℕ). OfLogs known s name more old new (λ j. (starts_in_first j.names.more part.start ≡ true) × WritesJoined {A = A} looks known later w part asked had has j (Ok told))) stop_is
    (of-logs known stop name more old new (λ j. IsJoined j logs) _ of_logs
    (λ j joined. subst (λ (k : Joined). (starts_in_first k.names.more part.start ≡ true) × WritesJoined {A = A} looks known later w part asked had has k (Ok told)) joined.is
    (sym starts, subst (λ (s : Selection). WritesHanded {A = A} looks known later w (names_told logs.names) s asked (log_of logs.source) (end_of logs.source) (fault_of logs.source) had has (Ok told)) inside_is is)))

pub read-failed : {A R S : Type 0} (looks : Bool) (known : R → Option (List ℕ)) (later more : List (GivenLog R)) (w : Writing) (name : List ℕ) (part inside : Selection) (asked : Option UnitRequest) (stop : Option ℕ)
    (old new had has : Option (List ℕ)) (logs : Logs S) (inner : PartFault A) (n : ℕ) (cause : PartFault A) → stop ≡ (reading_of looks asked part).stop → OfLogs known stop name more old new (λ j. IsJoined j logs)
    → true ≡ starts_in_first (names_told logs.names).more part.start → inside ≡ part_among (names_told logs.names) part
    → WritesHanded {A = A} looks known later w (names_told logs.names) inside asked (log_of logs.source) (end_of logs.source) (fault_of logs.source) had has (Err inner)
    → IsLocated (names_told logs.names) inner n cause → WritesPart {A = A} looks known later w name more part asked old new had has (Err (Part n cause))
read-failed {A = A} looks known later more w name part inside asked stop old new had has logs inner n cause stop_is of_logs starts inside_is is located =
    inr (subst (λ (s : Option ℕ). OfLogs known s name more old new (FailsJoined {A = A} looks known later w part asked had has n cause)) stop_is
    (of-logs known stop name more old new (λ j. IsJoined j logs) _ of_logs
    (λ j joined. subst (FailsJoined {A = A} looks known later w part asked had has n cause) joined.is
    (inr (sym starts, (inner, located, subst (λ (s : Selection). WritesHanded {A = A} looks known later w (names_told logs.names) s asked (log_of logs.source) (end_of logs.source) (fault_of logs.source) had has (Err inner)) inside_is is))))))

-- its start isn't in the first log
pub read-without-start : {A R S : Type 0} (looks : Bool) (known : R → Option (List ℕ)) (later more : List (GivenLog R)) (w : Writing) (name : List ℕ) (part : Selection) (asked : Option UnitRequest) (stop : Option ℕ)
    (old new had has : Option (List ℕ)) (logs : Logs S) → stop ≡ (reading_of looks asked part).stop → OfLogs known stop name more old new (λ j. IsJoined j logs)
    → false ≡ starts_in_first (names_told logs.names).more part.start → Keeps had has → WritesPart {A = A} looks known later w name more part asked old new had has (Err (Part 0 (NoEventAt part.start)))
read-without-start {A = A} looks known later more w name part asked stop old new had has logs stop_is of_logs starts keeps =
    inr (subst (λ (s : Option ℕ). OfLogs known s name more old new (FailsJoined {A = A} looks known later w part asked had has 0 (NoEventAt part.start))) stop_is
    (of-logs known stop name more old new (λ j. IsJoined j logs) _ of_logs
    (λ j joined. subst (FailsJoined {A = A} looks known later w part asked had has 0 (NoEventAt part.start)) joined.is (inl (sym starts, refl, refl, keeps)))))

-- the same by the fault that is told
pub read-located : {A R S : Type 0} (looks : Bool) (known : R → Option (List ℕ)) (later more : List (GivenLog R)) (w : Writing) (name : List ℕ) (part inside : Selection) (asked : Option UnitRequest) (stop : Option ℕ)
    (old new had has : Option (List ℕ)) (logs : Logs S) (inner : PartFault A) (fault : LogsFault A) → stop ≡ (reading_of looks asked part).stop → OfLogs known stop name more old new (λ j. IsJoined j logs)
    → true ≡ starts_in_first (names_told logs.names).more part.start → inside ≡ part_among (names_told logs.names) part
    → WritesHanded {A = A} looks known later w (names_told logs.names) inside asked (log_of logs.source) (end_of logs.source) (fault_of logs.source) had has (Err inner)
    → IsLocatedIn (names_told logs.names) inner fault → WritesPart {A = A} looks known later w name more part asked old new had has (Err fault)
read-located looks known later more w name part inside asked stop old new had has logs inner (Part n cause) stop_is of_logs starts inside_is is located =
    read-failed looks known later more w name part inside asked stop old new had has logs inner n cause stop_is of_logs starts inside_is is located
read-located looks known later more w name part inside asked stop old new had has logs inner (Opening f) stop_is of_logs starts inside_is is none = absurd none
read-located looks known later more w name part inside asked stop old new had has logs inner (Further n cause) stop_is of_logs starts inside_is is none = absurd none

-- they aren't read
pub not-read : {A R : Type 0} (looks : Bool) (known : R → Option (List ℕ)) (later more : List (GivenLog R)) (w : Writing) (name : List ℕ) (part : Selection) (asked : Option UnitRequest) (stop : Option ℕ)
    (old new had has : Option (List ℕ)) (fault : LogsFault A) → OpensLogs {A = A} known stop name more old new (Err fault) → Keeps had has
    → WritesPart {A = A} looks known later w name more part asked old new had has (Err fault)
not-read looks known later more w name part asked stop old new had has (Opening f) is keeps = (is, keeps)
not-read looks known later more w name part asked stop old new had has (Further n cause) is keeps = (is, keeps)
not-read looks known later more w name part asked stop old new had has (Part n (Run (run.Log f))) (number, is) keeps = inl (ap (λ f. Run (run.Log f)) is, keeps)
not-read looks known later more w name part asked stop old new had has (Part n (Run run.Read)) none keeps = absurd none
not-read looks known later more w name part asked stop old new had has (Part n (Run run.Write)) none keeps = absurd none
not-read looks known later more w name part asked stop old new had has (Part n (Sums f)) none keeps = absurd none
not-read looks known later more w name part asked stop old new had has (Part n (NoEventAt pos)) none keeps = absurd none
not-read looks known later more w name part asked stop old new had has (Part n (NoUnitAt place)) none keeps = absurd none
not-read looks known later more w name part asked stop old new had has (Part n (NoUnitWithGtid gtid)) none keeps = absurd none
not-read looks known later more w name part asked stop old new had has (Part n (Log f)) none keeps = absurd none
not-read looks known later more w name part asked stop old new had has (Part n NothingSelected) none keeps = absurd none
not-read looks known later more w name part asked stop old new had has (Part n (LaterLog k f)) none keeps = absurd none
not-read looks known later more w name part asked stop old new had has (Part n (ChangedSince rows lines)) none keeps = absurd none
not-read looks known later more w name part asked stop old new had has (Part n (UnknownSince lines)) none keeps = absurd none
not-read looks known later more w name part asked stop old new had has (Part n TooLong) none keeps = absurd none
not-read looks known later more w name part asked stop old new had has (Part n (NoSchema text)) none keeps = absurd none
not-read looks known later more w name part asked stop old new had has (Part n (Unmerged lines)) none keeps = absurd none
