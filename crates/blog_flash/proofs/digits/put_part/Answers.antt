use Rattle.blog_flash.proofs.BySixteen.{part-put}
use Rattle.blog_flash.proofs.digits.put_part.Goals as goal

pub returns : goal.returns
returns c = part-put c.args.at c.args.to.now c.args.part c.fits-part.0 c.requires
