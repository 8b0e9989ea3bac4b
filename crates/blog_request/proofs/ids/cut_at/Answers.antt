-- The first byte of the value, or none.
use Rattle.std.proofs.Common.{rules}
use Rattle.std.specs.Prelude.{◌==◌}
use Rattle.std.proofs.lemmas.Iterator.{YieldsList-from_slice}
use Rattle.std.proofs.lemmas.Iterator.Search.{position_from_yields_List}
use borrow.Author.Tests.{tests}
use Rattle.blog_request.proofs.Cuts.{cut-some, cut-none}
use Rattle.blog_request.proofs.ids.cut_at.Goals as goal

pub returns-in-Some : goal.returns-in-Some
returns-in-Some c =
    cut-some c.args.byte c.args.text.now c.in-Some.at
    (position_from_yields_List (λ b. b == c.args.byte) _ _ _ c.in-Some.ensures.ran (YieldsList-from_slice c.args.text.now cc) (λ x b q k. search (rules, tests)))

pub returns-in-None : goal.returns-in-None
returns-in-None c =
    cut-none c.args.byte c.args.text.now
    (position_from_yields_List (λ b. b == c.args.byte) _ _ _ c.in-None.ensures.ran (YieldsList-from_slice c.args.text.now cc) (λ x b q k. search (rules, tests)))
