-- The first point, or none.
use Rattle.std.proofs.Common.{rules}
use Rattle.std.specs.Prelude.{◌==◌}
use Rattle.std.proofs.lemmas.Iterator.{YieldsList-from_slice}
use Rattle.std.proofs.lemmas.Iterator.Search.{position_from_yields_List}
use borrow.Author.Tests.{tests}
use Rattle.blog_choice.proofs.Names.{read-some, read-none}
use Rattle.blog_choice.proofs.choice.TableName.read.Goals as goal

pub returns-in-Some : goal.returns-in-Some
returns-in-Some c =
    read-some c.args.text.now c.in-Some.point
    (position_from_yields_List (λ byte. byte == 46) _ _ _ c.in-Some.ensures.ran (YieldsList-from_slice c.args.text.now cc) (λ x b q k. search (rules, tests)))

pub returns-in-None : goal.returns-in-None
returns-in-None c =
    read-none c.args.text.now
    (position_from_yields_List (λ byte. byte == 46) _ _ _ c.in-None.ensures.ran (YieldsList-from_slice c.args.text.now cc) (λ x b q k. search (rules, tests)))
