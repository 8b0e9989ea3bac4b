-- One of the names passes the test.
use Rattle.std.proofs.Common.{sym, ◌∙◌, rules, Bor, List, ℕ}
use Rattle.std.proofs.lemmas.Iterator.{YieldsList-from_slice}
use Rattle.std.proofs.lemmas.Iterator.Search.{any_from_yields_List}
use borrow.Author.Tests.{tests}
use Rattle.blog_choice.specs.Naming.{has_twins}
use Rattle.blog_choice.proofs.Places.{list_any-map}
use Rattle.blog_choice.proofs.name_set.has_any_twins.Goals as goal

pub returns : goal.returns
returns c =
    any_from_yields_List (λ (name : Bor (List ℕ)). has_twins name.now) _ _ _ c.any.ensures.ran (YieldsList-from_slice c.args.names.now cc) (λ x b q k. search (rules, tests))
    ∙ sym (list_any-map has_twins (λ (name : Bor (List ℕ)). name.now) c.args.names.now)
