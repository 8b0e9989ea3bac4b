use Rattle.std.proofs.Common.{◌∙◌, rules}
use Rattle.std.specs.Cmp.Lexicographic.{slice_cmp}
use Rattle.std.specs.Ordering.{nat_cmp}
use Rattle.std.specs.Str.{str_to_ascii_lowercase}
use Rattle.std.proofs.lemmas.Fn.{always_returns_same}
use Rattle.blog_choice.proofs.Sets.{found-by-search}
use Rattle.blog_choice.proofs.name_set.NameSet.has.Goals as goal

pub returns : goal.returns
returns g c =
    let word = c.args.word.now in
    let by_bytes = c.binary_search_by.ensures.position (λ y. slice_cmp nat_cmp (str_to_ascii_lowercase y.now) (str_to_ascii_lowercase word)) (always_returns_same _ _ _ (λ a r q k. search rules)) in
    c.is_ok.ensures.value ∙ rw (← c.deref.ensures.value) (found-by-search word c.deref.result.now c.binary_search_by.result (rw c.deref.ensures.value c.args.self.now.order) c.binary_search_by.ensures.bound by_bytes)
