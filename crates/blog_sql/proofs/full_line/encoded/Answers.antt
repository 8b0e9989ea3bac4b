use Rattle.std.proofs.Common.{◌∙◌}
use Rattle.blog_sql.proofs.FullLine.{six-bits, characters-are}
use Rattle.blog_sql.proofs.full_line.encoded.Goals as goal

pub characters-requires : goal.characters-requires
characters-requires c = six-bits c.args.bytes c.six_bits.result c.fits-bytes.1 c.six_bits.ensures

pub returns : goal.returns
returns c = c.characters.ensures ∙ characters-are c.args.bytes c.six_bits.result c.fits-bytes.0 c.six_bits.ensures
