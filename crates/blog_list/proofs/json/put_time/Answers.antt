use Rattle.std.proofs.Common.{List, ℕ, ◌++◌, ap, ◌∙◌}
use Rattle.std.specs.Prelude.{codes}
use Rattle.std.proofs.lemmas.Result.{on_ok_weaker}
use Rattle.blog_list.specs.Lines.{numbered}
use Rattle.blog_text.proofs.Growing.{both-parts}
use Rattle.blog_list.proofs.json.put_time.Goals as goal

pub returns : goal.returns
returns g c =
    let old : List ℕ = c.args.out.now.items in
    let one : List ℕ = c.put_text.new.out.items in
    let two : List ℕ = c.put_text-2.new.out.items in
    let new : List ℕ = c.put_numbered.new.out.items in
    on_ok_weaker c.put_numbered.result
    (λ last. (
      c.rfc_3339_text.result.bytes,
      c.rfc_3339_text.ensures,
      both-parts old one new _ _ c.in_ok-put_text.ensures (both-parts one two new _ _
          (c.in_ok-put_text-2.ensures ∙ ap (λ (text : List ℕ). one ++ text) (c.as_bytes.ensures.value ∙ c.as_str.ensures.value))
          (last ∙ ap (λ (n : ℕ). two ++ numbered (codes "\",\"timestamp\":") n) c.from.ensures)),
    ))
    c.put_numbered.ensures
