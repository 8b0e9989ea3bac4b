use Rattle.std.proofs.Common.{arith}
use Rattle.blog_flash.proofs.BySixteen.{encode-nil, covered, whole}
use Rattle.blog_flash.proofs.digits.write_sixteens.Goals as goal

pub parts-init : goal.parts-init
parts-init c = encode-nil

pub parts-preserved : goal.parts-preserved
parts-preserved c =
    covered 16 c.parts.at c.parts.at c.args.bytes.now c.parts.to c.put_sixteen.new.to (omega arith) (omega arith) c.parts.invariant c.put_sixteen.ensures

pub returns : goal.returns
returns c =
    let bytes = c.args.bytes.now in
    let last = covered 16 _ c.parts.at bytes c.parts.to c.put_sixteen-2.new.to (omega arith) (omega arith) c.parts.invariant c.put_sixteen-2.ensures in
    whole _ bytes c.put_sixteen-2.new.to (omega arith) (omega arith) last
