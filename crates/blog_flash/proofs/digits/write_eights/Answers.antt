use Rattle.std.proofs.Common.{arith}
use Rattle.blog_flash.proofs.BySixteen.{encode-nil, covered, whole}
use Rattle.blog_flash.proofs.digits.write_eights.Goals as goal

pub returns : goal.returns
returns c =
    let bytes = c.args.bytes.now in
    let first = covered 8 0 0 bytes c.args.to.now c.put_eight.new.to (omega arith) (omega arith) encode-nil c.put_eight.ensures in
    let last = covered 8 _ 8 bytes c.put_eight.new.to c.put_eight-2.new.to (omega arith) (omega arith) first c.put_eight-2.ensures in
    whole _ bytes c.put_eight-2.new.to (omega arith) (omega arith) last
