use Rattle.blog_sql.proofs.Characters.{classes-fit, characters-of}
use Rattle.blog_sql.proofs.full_line.characters.Goals as goal

pub swizzle : goal.swizzle
swizzle c = classes-fit c.args.numbers c.fits-numbers.0 c.requires

pub returns : goal.returns
returns c = characters-of c.args.numbers c.fits-numbers.0 c.requires
