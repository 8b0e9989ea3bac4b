-- The words are sorted, and are the same.
use Rattle.std.proofs.Common.{◌∙◌, sym, ap, rules, length}
use Rattle.std.specs.Prelude.{◌==◌}
use Rattle.std.specs.Cmp.Lexicographic.{slice_cmp}
use Rattle.std.specs.List.{list_any}
use Rattle.std.specs.Ordering.{is_lt, nat_cmp}
use Rattle.std.specs.Str.{str_to_ascii_lowercase}
use Rattle.std.proofs.lemmas.Cmp.{nat_list_cmp_total}
use Rattle.std.proofs.lemmas.List.Sorted.{answers_always, ranks_by}
use Rattle.blog_choice.specs.Naming.{has_twins, is_special}
use Rattle.blog_choice.specs.code.Sets.{words_of}
use Rattle.blog_choice.proofs.Sets.{reordered}
use Rattle.blog_choice.proofs.name_set.NameSet.new.Goals as goal

pub invariant_of-result-clause-order : goal.invariant_of-result-clause-order
invariant_of-result-clause-order g c =
    c.sort_unstable_by.ensures.sorted (λ x y. is_lt (slice_cmp nat_cmp (str_to_ascii_lowercase x.now) (str_to_ascii_lowercase y.now)))
    (ranks_by nat_list_cmp_total (λ x. str_to_ascii_lowercase x.now)) (answers_always _ _ _ (λ f a r q k. search rules))

pub invariant_of-result-clause-long : goal.invariant_of-result-clause-long
invariant_of-result-clause-long g c = λ n.
    c.in_ok-lengths.ensures n ∙ ap (λ words. list_any (λ word. length word == n) (words_of words)) c.deref.ensures.value
    ∙ sym (reordered (λ word. length word == n) c.args.names.items c.sort_unstable_by.new.self.items c.sort_unstable_by.ensures.permutation)

pub returns : goal.returns
returns g c = λ test. reordered test c.args.names.items c.sort_unstable_by.new.self.items c.sort_unstable_by.ensures.permutation

pub invariant_of-result-clause-others : goal.invariant_of-result-clause-others
invariant_of-result-clause-others g c =
    c.is_any_special-special.ensures ∙ ap (λ names. list_any is_special (words_of names)) c.deref-2.ensures.value
    ∙ sym (reordered is_special c.args.names.items c.sort_unstable_by.new.self.items c.sort_unstable_by.ensures.permutation)

pub invariant_of-result-clause-in_two : goal.invariant_of-result-clause-in_two
invariant_of-result-clause-in_two g c =
    c.has_any_twins-twins.ensures ∙ ap (λ names. list_any has_twins (words_of names)) c.deref-3.ensures.value
    ∙ sym (reordered has_twins c.args.names.items c.sort_unstable_by.new.self.items c.sort_unstable_by.ensures.permutation)
