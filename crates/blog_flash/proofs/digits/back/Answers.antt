use Rattle.blog_flash.proofs.BySixteen.{back-is}
use Rattle.blog_flash.proofs.digits.back.Goals as goal

pub returns : goal.returns
returns c = back-is c.args.bytes c.first_digits.result c.second_digits.result c.fits-bytes.0 c.first_digits.ensures c.second_digits.ensures
