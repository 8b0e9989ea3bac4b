-- The first byte that ends a word, or none.
use Rattle.std.proofs.Common.{rules}
use Rattle.std.proofs.lemmas.Iterator.{YieldsList-from_slice}
use Rattle.std.proofs.lemmas.Iterator.Search.{position_from_yields_List}
use borrow.Author.Tests.{tests}
use Rattle.blog_choice.specs.Words.{ends_word, first_word, after_first_word}
use Rattle.blog_choice.proofs.Places.{found-front, found-end, none-front, none-end}
use Rattle.blog_choice.proofs.words.split_first_word.Goals as goal

pub returns-in-Some-clause-word : goal.returns-in-Some-clause-word
unfolding first_word
returns-in-Some-clause-word c =
    rw (← c.after_blanks-text.ensures)
    (found-front ends_word c.after_blanks-text.result.now c.in-Some.end
    (position_from_yields_List ends_word _ _ _ c.in-Some.ensures.ran (YieldsList-from_slice c.after_blanks-text.result.now cc) (λ x b q k. search (rules, tests))))

pub returns-in-Some-clause-after : goal.returns-in-Some-clause-after
unfolding after_first_word
returns-in-Some-clause-after c =
    rw (← c.after_blanks-text.ensures)
    (found-end ends_word c.after_blanks-text.result.now c.in-Some.end
    (position_from_yields_List ends_word _ _ _ c.in-Some.ensures.ran (YieldsList-from_slice c.after_blanks-text.result.now cc) (λ x b q k. search (rules, tests))))

pub returns-in-None-clause-word : goal.returns-in-None-clause-word
unfolding first_word
returns-in-None-clause-word c =
    rw (← c.after_blanks-text.ensures)
    (none-front ends_word c.after_blanks-text.result.now
    (position_from_yields_List ends_word _ _ _ c.in-None.ensures.ran (YieldsList-from_slice c.after_blanks-text.result.now cc) (λ x b q k. search (rules, tests))))

pub returns-in-None-clause-after : goal.returns-in-None-clause-after
unfolding after_first_word
returns-in-None-clause-after c =
    rw (← c.after_blanks-text.ensures)
    (none-end ends_word c.after_blanks-text.result.now
    (position_from_yields_List ends_word _ _ _ c.in-None.ensures.ran (YieldsList-from_slice c.after_blanks-text.result.now cc) (λ x b q k. search (rules, tests))))
