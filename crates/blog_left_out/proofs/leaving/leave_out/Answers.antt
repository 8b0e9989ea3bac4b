use Rattle.std.proofs.Common.{◌≡◌, ℕ, ◌++◌, List, length, None, ap, ◌∙◌}
use Rattle.blog_event.specs.File.{read}
use Rattle.blog_row.specs.declared.order.Order.TheVariants.{Forward}
use Rattle.blog_trans.specs.Groups.{groups, placed_groups}
use Rattle.blog_trans.specs.Selection.{Selection}
use Rattle.blog_trans.specs.code.IndexView.{index_bytes, index_selection}
use Rattle.blog_trans.specs.code.InTurn.{in_turn}
use Rattle.blog_flash.specs.Texts.{group_events, laid_out_after}
use Rattle.blog_flash.specs.code.LaidOut.{text_from}
use Rattle.std.specs.Prelude.{Bool}
use Rattle.blog_left_out.specs.LeftOut.{left_out_text, transactions_kept}
use Rattle.blog_left_out.specs.code.InTurn.{written_in_turn}
use Rattle.blog_left_out.proofs.InTurn.{kept-in-turn}
use Rattle.blog_left_out.proofs.Putting.{text-refused, whole-text}
use Rattle.blog_left_out.proofs.leaving.leave_out.Goals as goal

-- all that is written is the text
written-whole : (ms : List Bool) (bytes : List ℕ) (sel : Selection) (old front : List ℕ) → old ≡ front
    → front ++ text_from (length front) (group_events (transactions_kept ms (groups bytes sel))) ≡ laid_out_after (read bytes sel.stop) (transactions_kept ms (groups bytes sel))
    → old ++ text_from (length old) (written_in_turn ms None (in_turn Forward (placed_groups bytes sel))) ≡ left_out_text ms bytes sel
unfolding left_out_text
written-whole ms bytes sel old front same is =
    whole-text old front _ (group_events (transactions_kept ms (groups bytes sel))) _ same (kept-in-turn ms bytes sel) is

pub returns-in-Ok-put_groups-clause-text : goal.returns-in-Ok-put_groups-clause-text
returns-in-Ok-put_groups-clause-text g c =
    let bytes = index_bytes c.args.index.now in
    let sel = index_selection c.args.index.now in
    let front = c.in-Ok.ensures.items ∙ ap (λ (own : List ℕ). own ++ c.front.result.now) c.new-out.ensures.items in
    c.in-Ok-put_groups.ensures.0 ∙ written-whole c.args.marks.now bytes sel c.extend_from_slice.new.self.items c.front.result.now front (c.front.ensures.any (transactions_kept c.args.marks.now (groups bytes sel)))

pub returns-in-Err-clause-fault : goal.returns-in-Err-clause-fault
returns-in-Err-clause-fault g c =
    let bytes = index_bytes c.args.index.now in
    let sel = index_selection c.args.index.now in
    let front = c.in-Ok.ensures.items ∙ ap (λ (own : List ℕ). own ++ c.front.result.now) c.new-out.ensures.items in
    text-refused c.extend_from_slice.new.self.items _ _ c.in-Err.fault
    (written-whole c.args.marks.now bytes sel c.extend_from_slice.new.self.items c.front.result.now front (c.front.ensures.any (transactions_kept c.args.marks.now (groups bytes sel)))) c.in-Err.ensures
