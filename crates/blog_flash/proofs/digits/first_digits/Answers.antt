use Rattle.std.proofs.Common.{◌∙◌}
use Rattle.blog_flash.proofs.BySixteen.{highs-few, first-digits}
use Rattle.blog_flash.proofs.digits.first_digits.Goals as goal

pub digits_of-requires : goal.digits_of-requires
digits_of-requires c = highs-few c.args.bytes c.fits-bytes.0 c.fits-bytes.1

pub returns : goal.returns
returns c = c.digits_of.ensures ∙ first-digits c.args.bytes c.fits-bytes.0
