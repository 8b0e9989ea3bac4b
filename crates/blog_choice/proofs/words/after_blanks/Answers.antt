-- The first byte that is no blank, or none.
use Rattle.std.proofs.Common.{rules}
use Rattle.std.specs.Prelude.{not}
use Rattle.std.proofs.lemmas.Iterator.{YieldsList-from_slice}
use Rattle.std.proofs.lemmas.Iterator.Search.{position_from_yields_List}
use borrow.Author.Tests.{tests}
use Rattle.blog_choice.specs.Words.{is_blank, after_blanks}
use Rattle.blog_choice.proofs.Places.{found-end, none-end}
use Rattle.blog_choice.proofs.words.after_blanks.Goals as goal

pub returns-in-Some : goal.returns-in-Some
unfolding after_blanks
returns-in-Some c =
    found-end (λ byte. not (is_blank byte)) c.args.text.now c.in-Some.start
    (position_from_yields_List (λ byte. not (is_blank byte)) _ _ _ c.in-Some.ensures.ran (YieldsList-from_slice c.args.text.now cc) (λ x b q k. search (rules, tests)))

pub returns-in-None : goal.returns-in-None
unfolding after_blanks
returns-in-None c =
    none-end (λ byte. not (is_blank byte)) c.args.text.now
    (position_from_yields_List (λ byte. not (is_blank byte)) _ _ _ c.in-None.ensures.ran (YieldsList-from_slice c.args.text.now cc) (λ x b q k. search (rules, tests)))
