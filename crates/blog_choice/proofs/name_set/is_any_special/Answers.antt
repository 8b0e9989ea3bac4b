-- One of the names passes the test.
use Rattle.std.proofs.Common.{sym, ◌∙◌, rules, Bor, List, ℕ}
use Rattle.std.proofs.lemmas.Iterator.{YieldsList-from_slice}
use Rattle.std.proofs.lemmas.Iterator.Search.{any_from_yields_List}
use borrow.Author.Tests.{tests}
use Rattle.blog_choice.specs.Naming.{is_special}
use Rattle.blog_choice.proofs.Places.{list_any-map}
use Rattle.blog_choice.proofs.name_set.is_any_special.Goals as goal

pub returns : goal.returns
returns c =
    any_from_yields_List (λ (name : Bor (List ℕ)). is_special name.now) _ _ _ c.any.ensures.ran (YieldsList-from_slice c.args.names.now cc) (λ x b q k. search (rules, tests))
    ∙ sym (list_any-map is_special (λ (name : Bor (List ℕ)). name.now) c.args.names.now)
