use Rattle.blog_sql.proofs.SixBits.{twelve-bytes}
use Rattle.blog_sql.proofs.full_line.six_bits.Goals as goal

pub returns : goal.returns
returns c = twelve-bytes c.args.bytes c.fits-bytes
