use Rattle.std.proofs.Common.{ℕ, List, [], ◌++◌, sym, ap, ◌∙◌, append-nil}
use Rattle.blog_gathered.specs.Gathered.{gathered_text}
use Rattle.blog_gathered.proofs.gathered.Gathered.new.Goals as goal

pub returns : goal.returns
unfolding gathered_text
returns g c = record {
  text = c.in_ok-extend_from_slice.ensures.items ∙ ap (λ (own : List ℕ). own ++ c.front.result.now) c.new-bytes.ensures.items ∙ sym (append-nil c.front.result.now) ∙ c.front.ensures.any [];
  first_sound = c.is_sound.ensures;
  sound = tt;
}
