use Rattle.std.proofs.Common.{◌≡◌, ◌+◌, ◌%◌, ◌^◌, ◌-◌, bit_and, ap, ◌∙◌, arith}
use Rattle.std.proofs.lemmas.Nat.{and_mask}
use Rattle.blog_row.proofs.storages.if_there.Goals as goal

pub returns-clause-there : goal.returns-clause-there
returns-clause-there c e =
    let all : (c.from.result + 4294967295) % 4294967296 ≡ 2 ^ 32 - 1 = omega (arith, e, c.from.ensures) in
    let whole : c.args.number % 2 ^ 32 ≡ c.args.number = omega (arith, c.ranges.number.fits) in
    ap (bit_and c.args.number) all ∙ and_mask c.args.number 32 ∙ whole
