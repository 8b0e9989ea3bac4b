use Rattle.std.proofs.Common.{◌∷◌, ◌++◌, [], List, ℕ, ap, ◌∙◌}
use Rattle.std.proofs.lemmas.Result.{on_ok_weaker}
use Rattle.std.specs.List.{flat_map}
use Rattle.blog_text.specs.code.JsonBytes.{json_byte}
use Rattle.blog_text.proofs.Growing.{both-parts}
use Rattle.blog_text.proofs.JsonBytes.{text-bytes}
use Rattle.blog_text.proofs.json_text.put_visible.Goals as goal

pub returns : goal.returns
returns g c = λ none.
    let old : List ℕ = c.args.out.now.items in
    let one : List ℕ = c.put_text.new.out.items in
    let two : List ℕ = c.put_escaped.new.out.items in
    let new : List ℕ = c.put_text-2.new.out.items in
    on_ok_weaker c.put_text-2.result
    (λ last. both-parts old one new (34 ∷ []) _ c.in_ok-put_text.ensures
    (both-parts one two new _ (34 ∷ [])
    (c.in_ok-put_escaped.ensures
    ∙ ap (λ (bytes : List ℕ). one ++ bytes) (ap (flat_map json_byte) c.as_bytes.ensures.value ∙ text-bytes c.args.text.now c.utf8.text none))
    last))
    c.put_text-2.ensures
