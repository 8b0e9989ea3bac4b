-- One of the places is found.
use Rattle.std.proofs.Common.{◌∙◌, rules, length, refl, arith}
use Rattle.std.proofs.lemmas.Iterator.{YieldsList-from_range}
use Rattle.std.proofs.lemmas.Iterator.Search.{any_from_yields_List}
use borrow.Author.Tests.{tests}
use Rattle.blog_choice.specs.code.Sets.{is_any_at}
use Rattle.blog_choice.specs.code.NameSetView.{set_names}
use Rattle.blog_choice.proofs.Sets.{any-occurs}
use Rattle.blog_choice.proofs.name_set.NameSet.occurs_in.Goals as goal

pub returns : goal.returns
returns g c =
    any_from_yields_List (is_any_at (set_names c.args.self.now) c.args.text.now) _ _ _ c.any.ensures.ran (YieldsList-from_range 0 (length c.args.text.now) (length c.args.text.now) refl (omega arith)) (λ x b q k. search (rules, tests))
    ∙ any-occurs (set_names c.args.self.now) c.args.text.now
