use Rattle.std.proofs.Common.{◌≡◌, ◌<◌, ◌+◌, ◌^◌, ℕ, IfSome, subst, arith}
use Rattle.blog_value.specs.Times.{fraction_width}
use Rattle.blog_value.proofs.Widths.{all-front-fit}
use Rattle.blog_value.proofs.fractions.read_with_fraction.Goals as goal

pub returns-clause-fits : goal.returns-clause-fits
returns-clause-fits c =
    let width : c.from.result ≡ fraction_width c.args.digits = omega (arith, c.from.ensures, c.div_ceil.ensures) in
    all-front-fit c.read_big.result c.args.width (fraction_width c.args.digits)
    (subst (λ (w : ℕ). IfSome c.read_big.result (λ n. n < 256 ^ (c.args.width + w))) width c.read_big.ensures.fits)
