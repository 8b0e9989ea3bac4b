use Rattle.std.proofs.Common.{◌≡◌, List, Bool, false, length, ap, subst, sym, ◌∙◌, arith}
use Rattle.std.specs.Prelude.{filter, not}
use Rattle.blog_differences.specs.Outside.{outside_by}
use Rattle.blog_followed.specs.code.FollowedView.{kept_told}
use Rattle.blog_later.specs.Among.{marked_in}
use Rattle.blog_later.specs.Prints.{print_of}
use Rattle.blog_merge.specs.Merge.{pairs_of}
use Rattle.blog_pairs.specs.Steps.{pairs_with}
use Rattle.blog_untouched.specs.Recorded.{IsRecorded}
use Rattle.blog_untouched.specs.declared.rows.SelectedRow.{SelectedRow}
use Rattle.blog_untouched.specs.declared.rows.TakenRow.{TakenRow}
use Rattle.undo_run.specs.Leaving.{marks_undone, mixed, rows_left}
use Rattle.undo_run.proofs.Leaving.{none-out, some-out}
use Rattle.undo_run.proofs.Merging.{pairs-by-marks, unmerged-out}
use Rattle.undo_run.proofs.merged.merge_touched.Goals as goal

pub returns-then-left-eq0 : goal.returns-then-left-eq0
returns-then-left-eq0 g c t logs p bytes whole chosen steps recorded kept =
    let marks : c.in_ok-kept.kept.marks.items ≡ marks_undone t logs =
    c.in_ok-kept.ensures.marks print_of (mixed t logs)
    (subst (λ (ts : List TakenRow). IsRecorded print_of (mixed t logs) c.deref.result.now ts) (sym c.deref-2.ensures.value)
    (subst (λ (rs : List SelectedRow). IsRecorded print_of (mixed t logs) rs c.args.tracked.now.record.taken.items) (sym c.deref.ensures.value) recorded)) in
    none-out (marks_undone t logs) (ap (λ (ms : List Bool). length (filter not ms)) (sym marks) ∙ sym c.rows_left-left.ensures ∙ c.if-left-eq0.true)

pub returns-in-Ok : goal.returns-in-Ok
returns-in-Ok g c t logs p bytes whole chosen steps recorded kept =
    let marks : c.in_ok-kept.kept.marks.items ≡ marks_undone t logs =
    c.in_ok-kept.ensures.marks print_of (mixed t logs)
    (subst (λ (ts : List TakenRow). IsRecorded print_of (mixed t logs) c.deref.result.now ts) (sym c.deref-2.ensures.value)
    (subst (λ (rs : List SelectedRow). IsRecorded print_of (mixed t logs) rs c.args.tracked.now.record.taken.items) (sym c.deref.ensures.value) recorded)) in
    let count : c.rows_left-left.result ≡ rows_left t logs = c.rows_left-left.ensures ∙ ap (λ (ms : List Bool). length (filter not ms)) marks in
    let out = some-out (marks_undone t logs) (let left = c.if-left-eq0.false in omega (arith, left, count)) in
    let pairs = c.in-Ok.ensures p chosen ∙ (λ i. pairs_with false (kept_told c.args.tracked.now.followed) (pairs_of (outside_by (c.deref-3.ensures.value i) (marked_in (sym steps i)))))
    ∙ kept c.in_ok-kept.kept.marks.items ∙ pairs-by-marks t logs c.in_ok-kept.kept.marks.items marks in
    c.merge_pairs.ensures t logs bytes whole (c.deref-in-Ok.ensures.value ∙ marks) out pairs

pub returns : goal.returns
returns g c t logs p bytes whole chosen steps recorded kept =
    let marks : c.in_ok-kept.kept.marks.items ≡ marks_undone t logs =
    c.in_ok-kept.ensures.marks print_of (mixed t logs)
    (subst (λ (ts : List TakenRow). IsRecorded print_of (mixed t logs) c.deref.result.now ts) (sym c.deref-2.ensures.value)
    (subst (λ (rs : List SelectedRow). IsRecorded print_of (mixed t logs) rs c.args.tracked.now.record.taken.items) (sym c.deref.ensures.value) recorded)) in
    let count : c.rows_left-left.result ≡ rows_left t logs = c.rows_left-left.ensures ∙ ap (λ (ms : List Bool). length (filter not ms)) marks in
    let out = some-out (marks_undone t logs) (let left = c.if-left-eq0.false in omega (arith, left, count)) in
    unmerged-out t logs c.args.touched c.unpaired.result out c.unpaired.ensures
