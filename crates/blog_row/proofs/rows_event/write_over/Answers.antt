use Rattle.std.proofs.Common.{◌+◌, List, ℕ, [], ◌∷◌, drop, get_or, refl, sym, ap, ◌∙◌, drop-cons, subst, add-one}
use Rattle.std.specs.Borrow.{Bor}
use Rattle.blog_event.specs.Writing.{joined}
use Rattle.blog_row.proofs.Overwriting.{IsOver, over-part}
use Rattle.blog_row.proofs.rows_event.write_over.Goals as goal

pub loop-part-preserved : goal.loop-part-preserved
loop-part-preserved c =
    let parts = c.args.parts.now in
    let i = c.loop-part.part-index in
    let none : Bor (List ℕ) = record { ref_ptr = (0, 0); now = [] } in
    let left = ap joined (drop-cons parts i none c.loop-part-test.true) ∙ ap (λ (n : ℕ). joined (get_or parts i none ∷ drop n parts)) (sym (add-one i)) in
    let over = subst (λ (rest : List ℕ). IsOver (joined parts) rest c.loop-part.at c.args.to.now c.loop-part.to) left c.loop-part.invariant in
    over-part (joined parts) (get_or parts i none).now (joined (drop (i + 1) parts)) c.args.to.now c.loop-part.to _ c.loop-part.at _ c.requires refl over c.write_at.ensures
