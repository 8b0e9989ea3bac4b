use Rattle.std.proofs.Common.{ap, sym, ◌∙◌}
use Rattle.std.specs.Prelude.{nat_eq}
use Rattle.std.specs.List.{list_any}
use Rattle.std.proofs.lemmas.List.Sorted.{list_any-IsPermutation}
use Rattle.blog_later.proofs.Numbered.{any-before, any-numbered, is_before}
use Rattle.blog_later.proofs.leaving.Leaving.sorted.Goals as goal

pub returns : goal.returns
returns g c = λ css has k. (
  (λ p.
      any-before p k _ ∙ sym (list_any-IsPermutation (is_before p k) _ _ c.sort_unstable.ensures.permutation)
      ∙ ap (list_any (is_before p k)) has.rows ∙ any-numbered p k css has.few),
  (λ p. sym (list_any-IsPermutation (nat_eq p) _ _ c.sort_unstable-2.ensures.permutation) ∙ ap (list_any (nat_eq p)) has.tables),
)
