use Rattle.std.proofs.Common.{◌≡◌, ◌++◌, List, ℕ, Bool, true, length, ap, map, subst, sym, ◌∙◌, arith}
use Rattle.std.specs.Prelude.{filter, not}
use Rattle.blog_left_out.specs.LeftOut.{left_out_text}
use Rattle.blog_later.specs.Prints.{print_of}
use Rattle.blog_untouched.specs.Recorded.{IsRecorded}
use Rattle.blog_untouched.specs.declared.rows.SelectedRow.{SelectedRow}
use Rattle.blog_untouched.specs.declared.rows.TakenRow.{TakenRow}
use Rattle.undo_run.specs.Leaving.{are_some, marks_undone, mixed, rows_left}
use Rattle.undo_run.specs.Reports.{left_text}
use Rattle.undo_run.proofs.Leaving.{none-out, not-left-out, some-out}
use Rattle.undo_run.proofs.untouched.rest_of.Goals as goal

pub returns-then-left-eq0 : goal.returns-then-left-eq0
returns-then-left-eq0 g c t logs bytes whole recorded =
    let marks : c.in_ok-kept.kept.marks.items ≡ marks_undone t logs =
    c.in_ok-kept.ensures.marks print_of (mixed t logs)
    (subst (λ (ts : List TakenRow). IsRecorded print_of (mixed t logs) c.deref.result.now ts) (sym c.deref-2.ensures.value)
    (subst (λ (rs : List SelectedRow). IsRecorded print_of (mixed t logs) rs c.args.record.now.taken.items) (sym c.deref.ensures.value) recorded)) in
    let some : are_some (marks_undone t logs) ≡ true = sym (ap are_some (c.deref-3.ensures.value ∙ marks)) ∙ sym c.are_some.ensures ∙ c.if-not-are_some.false in
    (some, none-out (marks_undone t logs) (ap (λ (ms : List Bool). length (filter not ms)) (sym marks) ∙ sym c.rows_left-left.ensures ∙ c.if-left-eq0.true))

pub returns-in-Ok : goal.returns-in-Ok
returns-in-Ok g c t logs bytes whole recorded =
    let marks : c.in_ok-kept.kept.marks.items ≡ marks_undone t logs =
    c.in_ok-kept.ensures.marks print_of (mixed t logs)
    (subst (λ (ts : List TakenRow). IsRecorded print_of (mixed t logs) c.deref.result.now ts) (sym c.deref-2.ensures.value)
    (subst (λ (rs : List SelectedRow). IsRecorded print_of (mixed t logs) rs c.args.record.now.taken.items) (sym c.deref.ensures.value) recorded)) in
    let some : are_some (marks_undone t logs) ≡ true = sym (ap are_some (c.deref-3.ensures.value ∙ marks)) ∙ sym c.are_some.ensures ∙ c.if-not-are_some.false in
    let count : c.rows_left-left.result ≡ rows_left t logs = c.rows_left-left.ensures ∙ ap (λ (ms : List Bool). length (filter not ms)) marks in
    let out = some-out (marks_undone t logs) (let left = c.if-left-eq0.false in omega (arith, left, count)) in
    let (lines, told) = c.in_ok-told.ensures in
    (some, (out, c.in-Ok.ensures ∙ (λ i. left_out_text ((c.deref-4.ensures.value ∙ marks) i) (bytes i) (whole i)), (lines, told ∙ ap (λ (n : ℕ). left_text n ++ lines) count)))

pub returns : goal.returns
returns g c t logs bytes whole recorded =
    let marks : c.in_ok-kept.kept.marks.items ≡ marks_undone t logs =
    c.in_ok-kept.ensures.marks print_of (mixed t logs)
    (subst (λ (ts : List TakenRow). IsRecorded print_of (mixed t logs) c.deref.result.now ts) (sym c.deref-2.ensures.value)
    (subst (λ (rs : List SelectedRow). IsRecorded print_of (mixed t logs) rs c.args.record.now.taken.items) (sym c.deref.ensures.value) recorded)) in
    let some : are_some (marks_undone t logs) ≡ true = sym (ap are_some (c.deref-3.ensures.value ∙ marks)) ∙ sym c.are_some.ensures ∙ c.if-not-are_some.false in
    let count : c.rows_left-left.result ≡ rows_left t logs = c.rows_left-left.ensures ∙ ap (λ (ms : List Bool). length (filter not ms)) marks in
    let out = some-out (marks_undone t logs) (let left = c.if-left-eq0.false in omega (arith, left, count)) in
    not-left-out t logs c.args.touched _ c.in-Err.fault some out (λ i. left_out_text ((c.deref-4.ensures.value ∙ marks) i) (bytes i) (whole i)) c.in-Err.ensures
