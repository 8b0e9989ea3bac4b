use Rattle.std.proofs.Common.{List, ℕ, ◌++◌, ap, ◌∙◌}
use Rattle.std.proofs.lemmas.Result.{on_ok_weaker}
use Rattle.blog_text.proofs.Growing.{both-parts}
use Rattle.undo_run.proofs.since.put_statements.Goals as goal

pub returns : goal.returns
returns g c =
    let one : List ℕ = c.put_text.new.out.items in
    let two : List ℕ = c.put_number.new.out.items in
    let new : List ℕ = c.put_text-2.new.out.items in
    on_ok_weaker c.put_text-2.result
    (λ last. both-parts c.args.out.now.items one new _ _ c.in_ok-put_text.ensures (both-parts one two new _ _ c.in_ok-put_number.ensures (last ∙ ap (λ (text : List ℕ). two ++ text) c.statements_words.ensures)))
    c.put_text-2.ensures
