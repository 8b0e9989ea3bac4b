-- What is recorded of chosen units and of what came after them.
use Rattle.std.proofs.Common.{◌≡◌, ℕ, ◌+◌, ◌≤◌, List, [], ◌∷◌, ◌++◌, length, map, take, Bool, true, Ok, Err, Result, Option, refl, sym, ap, ap₂, subst, ◌∙◌, arith}
use Rattle.std.specs.Prelude.{nat_eq}
use Rattle.std.specs.List.{flat_map, list_any}
use Rattle.std.proofs.lemmas.List.{take_all}
use Rattle.blog_choice.specs.Choice.{Choice}
use Rattle.blog_followed.specs.Following.{others_in}
use Rattle.blog_device.specs.declared.fault.RunFault.TheVariants as run
use Rattle.blog_later.specs.Among.{Step, Other, marked_in, selected_in, touches_among}
use Rattle.blog_later.specs.Later.{changes_in}
use Rattle.blog_later.specs.Prints.{AreKept, HavePrints, Left, left_by, prints_left, print_of}
use Rattle.blog_trans.specs.Changes.{Change}
use Rattle.blog_untouched.proofs.OfSteps.{others-rows, others-taken, same-rows, steps-recorded}
use Rattle.blog_untouched.specs.Recorded.{IsRecorded}
use Rattle.blog_untouched.specs.Steps.{rows_in, taken_in, taken_of}
use Rattle.blog_untouched.specs.declared.rows.SelectedRow.{SelectedRow}
use Rattle.blog_untouched.specs.declared.rows.TakenRow.{TakenRow}
use Rattle.list_run.specs.Listed.{NamedLog}
use Rattle.list_run.specs.declared.given.GivenLog.{GivenLog}
use Rattle.undo_run.specs.After.{Later, later_changes, later_step, touches}
use Rattle.undo_run.specs.Taken.{Taken, after, tables_taken, whole_log}
use Rattle.undo_run.specs.code.Leaves.{AreRecorded, Records, RecordsAfter}
use Rattle.undo_run.specs.code.SinceView.{AreSeen}
use Rattle.undo_run.specs.code.Steps.{CountsOn, LooksOn}
use Rattle.undo_run.specs.declared.fault.PartFault.{PartFault}
use Rattle.undo_run.specs.declared.fault.PartFault.TheVariants.{Run, Sums, NoEventAt, NoUnitAt, NoUnitWithGtid, Log, NothingSelected, LaterLog, ChangedSince, UnknownSince, Unmerged, TooLong, NoSchema}
use Rattle.undo_run.specs.declared.untouched.Recorded.{Recorded as RecordedAfter}
use Rattle.undo_run.specs.code.Tracks.{HasFollowed}
use Rattle.undo_run.specs.declared.tracked.Tracked.{Tracked}
use Rattle.undo_run.proofs.Counted.{selected-later}
use Rattle.undo_run.proofs.Tracking.{keeps-pairs, left-has}

-- later logs are other steps
abbrev changes_of : Later → List Change
changes_of l = changes_in l.handed l.units

later-others : (ls : List Later) → map later_step ls ≡ map (λ cs. Other cs) (map changes_of ls)
later-others [] = refl
later-others (l ∷ ls) = ap (λ (ss : List Step). later_step l ∷ ss) (later-others ls)

later-flat : (ls : List Later) → flat_map (λ (cs : List Change). cs) (map changes_of ls) ≡ later_changes ls
later-flat [] = refl
later-flat (l ∷ ls) = ap (λ (cs : List Change). changes_of l ++ cs) (later-flat ls)

-- what is recorded of steps, and then of later logs
is-recorded : (lefts : ℕ → Left) (lists : ℕ) (ss : List Step) (ls : List Later) (rows : List SelectedRow) (taken : List TakenRow)
    → ((k : ℕ) → AreKept (left_by k (selected_in ss)) (lefts k)) → length (selected_in ss) ≤ lists → rows ≡ rows_in ss
    → taken ≡ taken_in (λ k. (lefts k).rows) 0 0 ss ++ taken_of (length rows) (lefts lists).rows (later_changes ls) → IsRecorded print_of (marked_in (ss ++ map later_step ls)) rows taken
is-recorded lefts lists ss ls rows taken same enough rows_are taken_are =
    let css = selected_in ss in
    let prints : ℕ → List ℕ = λ k. (lefts k).rows in
    let others = map changes_of ls in
    let steps = ss ++ map (λ cs. Other cs) others in
    let n = length css in
    let whole : take lists css ≡ take n css = take_all lists css enough ∙ sym (take_all n css (omega arith)) in
    let alike : HavePrints (prints n) (prints lists) =
    λ p. (same lists).0 p ∙ ap (λ (ds : List (List Change)). list_any (nat_eq p) (prints_left print_of (flat_map (λ cs. cs) ds))) whole ∙ sym ((same n).0 p) in
    let count : 0 + length (rows_in ss) ≡ length rows = ap (λ (m : ℕ). m) (omega arith) ∙ ap length (sym rows_are) in
    let last : 0 + n ≡ n = omega arith in
    let later : taken_of (0 + length (rows_in ss)) (prints (0 + n)) (flat_map (λ (cs : List Change). cs) others) ≡ taken_of (length rows) (prints lists) (later_changes ls) =
    ap₂ (λ (m k : ℕ). taken_of m (prints k) (flat_map (λ (cs : List Change). cs) others)) count last
    ∙ ap (taken_of (length rows) (prints n)) (later-flat ls)
    ∙ sym (same-rows (length rows) (prints lists) (prints n) alike (later_changes ls)) in
    let kept : (k : ℕ) → HavePrints (prints_left print_of (flat_map (λ cs. cs) (take k (selected_in steps)))) (prints k) =
    λ k. subst (λ (ds : List (List Change)). HavePrints (prints_left print_of (flat_map (λ cs. cs) (take k ds))) (prints k))
    (sym (selected-later ss ls) ∙ ap (λ (ks : List Step). selected_in (ss ++ ks)) (later-others ls)) (same k).0 in
    let rows_of_steps : rows ≡ rows_in steps = rows_are ∙ sym (others-rows ss others) in
    let taken_of_steps : taken ≡ taken_in prints 0 0 steps =
    taken_are ∙ ap (λ (ts : List TakenRow). taken_in prints 0 0 ss ++ ts) (sym later) ∙ sym (others-taken prints 0 0 ss others) in
    subst (λ (ks : List Step). IsRecorded print_of (marked_in (ss ++ ks)) rows taken) (sym (later-others ls))
    (subst (λ (rs : List SelectedRow). IsRecorded print_of (marked_in steps) rs taken) (sym rows_of_steps)
    (subst (λ (ts : List TakenRow). IsRecorded print_of (marked_in steps) (rows_in steps) ts) (sym taken_of_steps) (steps-recorded prints steps kept)))

pub all-recorded : {A R : Type 0} (known : R → Option (List ℕ)) (givens : List (GivenLog R)) (t : Taken) (lefts : ℕ → Left) (lists : ℕ) (choice : Choice) (m : ℕ) (cs : List Change) (follows : Bool) (first : Tracked A) (recorded : RecordedAfter A)
    → choice ≡ tables_taken t → CountsOn (lefts lists) m t.steps → ((k : ℕ) → AreKept (left_by k (selected_in t.steps)) (lefts k)) → length (selected_in t.steps) ≤ lists
    → first.record.rows.items ≡ rows_in t.steps → first.record.taken.items ≡ taken_in (λ k. (lefts k).rows) 0 0 t.steps → cs ≡ others_in t.steps → first.follows ≡ follows → (follows ≡ true → HasFollowed (lefts lists).rows cs first.followed)
    → LooksOn {A = A} known givens (lefts lists) choice m (t.rest ∷ []) (Records true (lefts lists) first recorded.tracked) (Ok recorded.since) → RecordsAfter known givens t follows (Ok recorded)
all-recorded known givens t lefts lists choice m cs follows first recorded named counts same enough rows taken others asked followed (logs, read, seen, also) =
    let ls = map whole_log logs in
    let tracks = also refl in
    let rows_are = tracks.rows ∙ rows in
    let taken_are : recorded.tracked.record.taken.items ≡ taken_in (λ k. (lefts k).rows) 0 0 t.steps ++ taken_of (length recorded.tracked.record.rows.items) (lefts lists).rows (later_changes ls) =
    tracks.taken ∙ ap₂ (λ (ts : List TakenRow) (rs : List SelectedRow). ts ++ taken_of (length rs) (lefts lists).rows (later_changes ls)) taken (sym tracks.rows) in
    let has = left-has (selected_in t.steps) lists (lefts lists).rows enough (same lists).0 in (
      logs,
      read,
      record {
        seen = subst (λ (n : ℕ). AreSeen n (tables_taken t) (after t logs) recorded.since) (counts ls)
            (subst (λ (c : Choice). AreSeen (m + touches (lefts lists) ls) c (after t logs) recorded.since) named seen);
        changes = is-recorded lefts lists t.steps ls recorded.tracked.record.rows.items recorded.tracked.record.taken.items same enough rows_are taken_are;
        pairs = λ on marks. keeps-pairs (lefts lists).rows cs t.steps ls first.followed recorded.tracked.followed marks has others (followed on) (tracks.followed (asked ∙ on));
      },
    )

pub not-recorded : {A R : Type 0} (known : R → Option (List ℕ)) (givens : List (GivenLog R)) (t : Taken) (kept : Left) (choice : Choice) (m : ℕ) (ls : List Later) (Also : List Later → Type 0) (follows : Bool) (cause : PartFault A)
    → LooksOn known givens kept choice m ls Also (Err cause) → RecordsAfter known givens t follows (Err cause)
not-recorded known givens t kept choice m ls Also follows (LaterLog n f) fails = fails
not-recorded known givens t kept choice m ls Also follows (Run (run.Log f)) is = is
not-recorded known givens t kept choice m ls Also follows (Run run.Read) none = absurd none
not-recorded known givens t kept choice m ls Also follows (Run run.Write) none = absurd none
not-recorded known givens t kept choice m ls Also follows (Sums f) none = absurd none
not-recorded known givens t kept choice m ls Also follows (NoEventAt pos) none = absurd none
not-recorded known givens t kept choice m ls Also follows (NoUnitAt place) none = absurd none
not-recorded known givens t kept choice m ls Also follows (NoUnitWithGtid gtid) none = absurd none
not-recorded known givens t kept choice m ls Also follows (Log f) none = absurd none
not-recorded known givens t kept choice m ls Also follows NothingSelected none = absurd none
not-recorded known givens t kept choice m ls Also follows (ChangedSince rows lines) none = absurd none
not-recorded known givens t kept choice m ls Also follows (UnknownSince lines) none = absurd none
not-recorded known givens t kept choice m ls Also follows TooLong none = absurd none
not-recorded known givens t kept choice m ls Also follows (NoSchema text) none = absurd none
not-recorded known givens t kept choice m ls Also follows (Unmerged lines) none = absurd none
