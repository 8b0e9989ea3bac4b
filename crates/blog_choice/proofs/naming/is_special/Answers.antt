-- One byte is special.
use Rattle.std.proofs.Common.{rules}
use Rattle.std.specs.Prelude.{◌==◌, ◌||◌, nat_le}
use Rattle.std.proofs.lemmas.Iterator.{YieldsList-from_slice}
use Rattle.std.proofs.lemmas.Iterator.Search.{any_from_yields_List}
use borrow.Author.Tests.{tests}
use Rattle.blog_choice.specs.Naming.{is_special}
use Rattle.blog_choice.proofs.Places.{nil-by-length}
use Rattle.blog_choice.proofs.naming.is_special.Goals as goal

pub returns-else-is_empty : goal.returns-else-is_empty
unfolding is_special
returns-else-is_empty c =
    rw (nil-by-length c.args.name.now c.is_empty.result c.is_empty.ensures c.if-is_empty.false)
    (any_from_yields_List (λ byte. byte == 34 || (byte == 96 || nat_le 128 byte)) _ _ _ c.any.ensures.ran (YieldsList-from_slice c.args.name.now cc) (λ x b q k. search (rules, tests)))
