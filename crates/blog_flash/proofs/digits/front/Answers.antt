use Rattle.blog_flash.proofs.BySixteen.{front-is}
use Rattle.blog_flash.proofs.digits.front.Goals as goal

pub returns : goal.returns
returns c = front-is c.args.bytes c.first_digits.result c.second_digits.result c.fits-bytes.0 c.first_digits.ensures c.second_digits.ensures
