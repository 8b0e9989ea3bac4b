use Rattle.std.proofs.Common.{◌≡◌, ◌||◌, ◌++◌, Bool, false, true, List, length, inr, refl, ap, sym, subst, ◌∙◌}
use Rattle.std.specs.Prelude.{nat_lt}
use Rattle.blog_left_out.specs.LeftOut.{kept, left_out_text}
use Rattle.blog_merge.specs.Merge.{staying}
use Rattle.blog_merge.specs.Pairs.{Pair}
use Rattle.blog_merged.specs.Nets.{nets_of}
use Rattle.blog_trans.specs.Changes.{Change, changes}
use Rattle.blog_trans.specs.code.IndexView.{index_bytes, index_selection}
use Rattle.undo_run.specs.Leaving.{are_some, marks_undone}
use Rattle.undo_run.specs.Merging.{pairs_left, undoes_some}
use Rattle.undo_run.specs.Reports.{merged_text}
use Rattle.undo_run.proofs.Merging.{rest-unwritten, unmerged-out}
use Rattle.undo_run.proofs.merged.merge_pairs.Goals as goal

pub returns-then-not-are_any : goal.returns-then-not-are_any
returns-then-not-are_any g c t logs bytes whole marks out pairs =
    let rows = c.rows_merged-rows.ensures ∙ ap (λ (ps : List Pair). length (nets_of ps)) pairs in
    (refl, (λ i. are_some (sym marks i) || nat_lt 0 (sym rows i)) ∙ sym c.are_any.ensures ∙ c.if-not-are_any.true)

pub returns-in-Err : goal.returns-in-Err
returns-in-Err g c t logs bytes whole marks out pairs =
    rest-unwritten t logs c.args.touched _ c.in-Err.fault out c.in-Err.ensures

pub returns-in-Ok-merged_log : goal.returns-in-Ok-merged_log
returns-in-Ok-merged_log g c t logs bytes whole marks out pairs =
    let rows = c.rows_merged-rows.ensures ∙ ap (λ (ps : List Pair). length (nets_of ps)) pairs in
    let some : undoes_some t logs ≡ true = (λ i. are_some (sym marks i) || nat_lt 0 (sym rows i)) ∙ sym c.are_any.ensures ∙ c.if-not-are_any.false in
    let index = c.args.index.now in
    let staying_rows = c.rows_staying.ensures ∙ ap (λ (ps : List Pair). length (staying ps)) pairs in
    let undone = c.in-Ok-index.ensures.changes c.args.marks.now (index_bytes index) (index_selection index) c.is_sound.ensures.bytes c.is_sound.ensures.accepted c.in-Ok.ensures in
    let text = c.in-Ok-merged_log.ensures.changes ∙ (λ i. nets_of (pairs i) ++ undone i) ∙ (λ i. nets_of (pairs_left t logs) ++ kept (marks i) (changes (bytes i) (whole i))) in
    let (lines, told) = c.in_ok-told.ensures in
    (out, inr (out, some, text), (lines, told ∙ (λ i. merged_text (rows i) (staying_rows i) ++ lines)))

pub returns-in-Err-TooLong : goal.returns-in-Err-TooLong
returns-in-Err-TooLong g c t logs bytes whole marks out pairs = out

pub returns : goal.returns
returns g c t logs bytes whole marks out pairs =
    unmerged-out t logs c.args.touched c.unmerged.result out c.unmerged.ensures
