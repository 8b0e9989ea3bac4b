use Rattle.std.proofs.Common.{◌∙◌}
use Rattle.blog_flash.proofs.BySixteen.{lows-few, second-digits}
use Rattle.blog_flash.proofs.digits.second_digits.Goals as goal

pub digits_of-requires : goal.digits_of-requires
digits_of-requires c = lows-few c.args.bytes c.fits-bytes.0

pub returns : goal.returns
returns c = c.digits_of.ensures ∙ second-digits c.args.bytes c.fits-bytes.0
