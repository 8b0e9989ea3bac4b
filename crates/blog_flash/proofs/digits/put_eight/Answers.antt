use Rattle.blog_flash.proofs.BySixteen.{eight-put}
use Rattle.blog_flash.proofs.digits.put_eight.Goals as goal

pub returns : goal.returns
returns c = eight-put c.args.at c.args.to.now c.args.bytes.now _ c.front.result c.put_part.new.to c.requires.within c.front.ensures c.put_part.ensures
