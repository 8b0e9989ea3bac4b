use Rattle.blog_flash.proofs.BySixteen.{numbers-fit, digits-are}
use Rattle.blog_flash.proofs.digits.digits_of.Goals as goal

pub swizzle : goal.swizzle
swizzle c = numbers-fit c.args.numbers c.fits-numbers.0 c.requires

pub returns : goal.returns
returns c = digits-are c.args.numbers c.fits-numbers.0 c.requires
