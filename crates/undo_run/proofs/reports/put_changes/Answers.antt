use Rattle.std.proofs.Common.{List, ℕ, ◌++◌, ap, ◌∙◌}
use Rattle.std.proofs.lemmas.Result.{on_ok_weaker}
use Rattle.blog_text.proofs.Growing.{both-parts}
use Rattle.undo_run.proofs.reports.put_changes.Goals as goal

pub returns : goal.returns
returns g c =
    let old : List ℕ = c.args.out.now.items in
    let one : List ℕ = c.put_text.new.out.items in
    let two : List ℕ = c.put_transactions.new.out.items in
    let three : List ℕ = c.put_text-2.new.out.items in
    let four : List ℕ = c.put_names.new.out.items in
    let five : List ℕ = c.put_text-3.new.out.items in
    let six : List ℕ = c.put_rows.new.out.items in
    let new : List ℕ = c.put_text-4.new.out.items in
    on_ok_weaker c.put_text-4.result
    (λ last. both-parts old one new _ _ (c.in_ok-put_text.ensures ∙ ap (λ (text : List ℕ). old ++ text) c.verb.ensures)
    (both-parts one two new _ _ c.in_ok-put_transactions.ensures
    (both-parts two three new _ _ c.in_ok-put_text-2.ensures (both-parts three four new _ _ c.in_ok-put_names.ensures
    (both-parts four five new _ _ c.in_ok-put_text-3.ensures (both-parts five six new _ _ c.in_ok-put_rows.ensures last))))))
    c.put_text-4.ensures
