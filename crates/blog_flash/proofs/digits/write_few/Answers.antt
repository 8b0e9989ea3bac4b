use Rattle.std.proofs.Common.{ℕ, arith, slice_index}
use Rattle.hex.specs.Hex.{upper_digits}
use Rattle.hex.proofs.Pairs.{encode_step, encode_done}
use Rattle.blog_flash.proofs.ByTable.{digits-at}
use Rattle.blog_flash.proofs.digits.write_few.Goals as goal

pub bytes-preserved : goal.bytes-preserved
bytes-preserved c =
    let byte : ℕ = slice_index c.args.bytes.now c.bytes.i in
    let digits = digits-at byte (omega (arith, c.type_inv.bytes c.bytes.i)) in
    encode_step upper_digits c.args.bytes.now c.bytes.to c.bytes.i _ _ (omega arith) (omega arith) digits.0 digits.1 c.bytes.invariant

pub returns : goal.returns
returns c =
    encode_done _ _ _ c.bytes.i (omega arith) (omega arith) c.bytes.invariant
