use Rattle.blog_sql.proofs.FullLine.{part-put}
use Rattle.blog_sql.proofs.full_line.put_part.Goals as goal

pub returns : goal.returns
returns c = part-put c.args.at c.args.line.now c.args.part c.fits-part.0 c.requires
