use Rattle.std.proofs.Common.{◌/◌, refl, arith}
use Rattle.std.proofs.lemmas.Fmt.{decimal_digit}
use Rattle.itoa.proofs.Decimal.{decimal_two, decimal_pair}
use Rattle.blog_flash.proofs.printed.write_column.Goals as goal

pub returns-then-n-lt10-clause-written : goal.returns-then-n-lt10-clause-written
returns-then-n-lt10-clause-written c = rw (c.copy_from_slice.ensures.after, decimal_digit c.args.n (omega arith)) refl

pub returns-then-n-lt100-clause-written : goal.returns-then-n-lt100-clause-written
returns-then-n-lt100-clause-written c =
    rw (c.copy_from_slice-then-n-lt100.ensures.after, decimal_two c.args.n (omega arith) (omega arith)) refl

pub returns-then-n-lt1000-clause-written : goal.returns-then-n-lt1000-clause-written
returns-then-n-lt1000-clause-written c =
    rw (c.copy_from_slice-then-n-lt1000.ensures.after, decimal_pair c.args.n (omega arith) (omega arith), decimal_digit (c.args.n / 100) (omega arith)) refl

pub returns-clause-written : goal.returns-clause-written
returns-clause-written c =
    rw (c.copy_from_slice-2.ensures.after, decimal_pair c.args.n (omega arith) (omega arith), decimal_two (c.args.n / 100) (omega arith) (omega arith)) refl
