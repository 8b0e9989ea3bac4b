-- The bytes up to the first zero byte.
use Rattle.std.proofs.Common.{refl, rules, take, drop, ◌==◌}
use Rattle.std.specs.Prelude.{not}
use Rattle.std.proofs.lemmas.Iterator.{YieldsList-from_slice}
use Rattle.std.proofs.lemmas.Iterator.Search.{position_from_yields_List}
use borrow.Author.Tests.{tests}
use Rattle.blog_event.proofs.FormatCode.{front-while-position}
use Rattle.blog_event.proofs.format.version_text.Goals as goal

pub returns-in-Some : goal.returns-in-Some
returns-in-Some c =
    front-while-position (λ byte. not (byte == 0)) (λ byte. byte == 0) (λ byte. refl) (take 50 (drop 2 c.args.body.now)) _
    (position_from_yields_List (λ byte. byte == 0) _ _ _ c.in-Some.ensures.ran (YieldsList-from_slice (take 50 (drop 2 c.args.body.now)) cc) (λ x b q k. search (rules, tests)))

pub returns-in-None : goal.returns-in-None
returns-in-None c =
    front-while-position (λ byte. not (byte == 0)) (λ byte. byte == 0) (λ byte. refl) (take 50 (drop 2 c.args.body.now)) _
    (position_from_yields_List (λ byte. byte == 0) _ _ _ c.in-None.ensures.ran (YieldsList-from_slice (take 50 (drop 2 c.args.body.now)) cc) (λ x b q k. search (rules, tests)))
