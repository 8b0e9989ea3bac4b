use Rattle.blog_value.proofs.Widths.{big-fits}
use Rattle.blog_value.proofs.integers.read_big.Goals as goal

pub returns-then-is_width-clause-fits : goal.returns-then-is_width-clause-fits
returns-then-is_width-clause-fits c = big-fits c.args.width _ c.args.bytes.now (λ k. (c.type_inv.bytes k).fits) c.read_uint.ensures
