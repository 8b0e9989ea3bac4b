use Rattle.std.proofs.Common.{refl}
use Rattle.blog_flash.proofs.ShortLines.{value-written}
use Rattle.blog_flash.proofs.printed.write_value.Goals as goal

pub returns-clause-written : goal.returns-clause-written
returns-clause-written c =
    rw c.in-Some.is (value-written c.args.text.now c.in-Some.bytes.now _ c.args.at _ _ c.write_digits.ensures refl refl c.requires.enough (rw c.in-Some.is at c.requires.short))
