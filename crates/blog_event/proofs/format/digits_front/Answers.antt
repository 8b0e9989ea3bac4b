-- The longest run of digits.
use Rattle.std.proofs.Common.{rules}
use Rattle.std.specs.Prelude.{not}
use Rattle.std.specs.Char.{is_ascii_digit}
use Rattle.std.proofs.lemmas.Iterator.{YieldsList-from_slice}
use Rattle.std.proofs.lemmas.Iterator.Search.{position_from_yields_List}
use borrow.Author.Tests.{tests}
use Rattle.blog_event.proofs.FormatCode.{front-while-position, not-not}
use Rattle.blog_event.proofs.format.digits_front.Goals as goal

pub returns-in-Some-clause-digits : goal.returns-in-Some-clause-digits
returns-in-Some-clause-digits c =
    front-while-position is_ascii_digit (λ byte. not (is_ascii_digit byte)) (λ byte. not-not (is_ascii_digit byte)) c.args.bytes.now _
    (position_from_yields_List (λ byte. not (is_ascii_digit byte)) _ _ _ c.in-Some.ensures.ran (YieldsList-from_slice c.args.bytes.now cc) (λ x b q k. search (rules, tests)))

pub returns-in-None-clause-digits : goal.returns-in-None-clause-digits
returns-in-None-clause-digits c =
    front-while-position is_ascii_digit (λ byte. not (is_ascii_digit byte)) (λ byte. not-not (is_ascii_digit byte)) c.args.bytes.now _
    (position_from_yields_List (λ byte. not (is_ascii_digit byte)) _ _ _ c.in-None.ensures.ran (YieldsList-from_slice c.args.bytes.now cc) (λ x b q k. search (rules, tests)))
