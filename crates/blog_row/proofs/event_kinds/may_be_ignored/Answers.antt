-- The flag is one bit.
use Rattle.std.proofs.Common.{◌≡◌, ◌*◌, ◌/◌, ◌%◌, arith, bit_and}
use Rattle.std.proofs.lemmas.Bool.Decides.{nat_tests}
use Rattle.std.proofs.lemmas.Nat.Bits.{and_high}
use Rattle.blog_row.proofs.event_kinds.may_be_ignored.Goals as goal

pub returns : goal.returns
returns c =
    let high : bit_and c.args.flags 128 ≡ c.args.flags / 128 % 2 * 128 = and_high c.args.flags 1 7 in
    grind (arith, nat_tests)
