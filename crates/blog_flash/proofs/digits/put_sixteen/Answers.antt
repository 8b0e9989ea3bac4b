use Rattle.blog_flash.proofs.BySixteen.{sixteen-put}
use Rattle.blog_flash.proofs.digits.put_sixteen.Goals as goal

pub returns : goal.returns
returns c =
    sixteen-put c.args.at c.args.to.now c.args.bytes.now c.put_part.new.to c.put_part-2.new.to c.front.result c.back.result c.requires.long c.requires.within
    c.front.ensures c.back.ensures c.put_part.ensures c.put_part-2.ensures
