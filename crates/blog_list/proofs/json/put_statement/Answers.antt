use Rattle.std.proofs.Common.{Bor, List, Option, ℕ, ◌++◌, sym, ap, ◌∙◌}
use Rattle.std.specs.Prelude.{option_copied}
use Rattle.std.proofs.lemmas.Result.{on_ok_weaker}
use Rattle.blog_list.specs.Json.{json_statement}
use Rattle.blog_text.proofs.Growing.{both-parts}
use Rattle.blog_list.proofs.json.put_statement.Goals as goal

pub returns-in_ok-put_beginning-in-Some : goal.returns-in_ok-put_beginning-in-Some
returns-in_ok-put_beginning-in-Some g c =
    let old : List ℕ = c.args.out.now.items in
    let one : List ℕ = c.put_text.new.out.items in
    let two : List ℕ = c.put_beginning.new.out.items in
    let new : List ℕ = c.put_text-in-Some.new.out.items in
    on_ok_weaker c.put_text-in-Some.result
    (λ last. both-parts old one new _ _ c.in_ok-put_text-in-Some.ensures (both-parts one two new _ _ c.in_ok-put_beginning-in-Some.ensures last)
    ∙ ap (λ (text : Option (Bor (List ℕ))). old ++ json_statement (option_copied text)) (sym c.in-Some.is))
    c.put_text-in-Some.ensures
