use Rattle.std.proofs.Common.{length, ap, arith, length-append}
use Rattle.hex.specs.Hex.{upper_digits}
use Rattle.hex.proofs.HexLemmas.{length-encode_with}
use Rattle.blog_flash.proofs.Printing.{not-refused}
use Rattle.blog_flash.proofs.printed.put_digits.Goals as goal

pub returns-in_err-put_text-clause-room : goal.returns-in_err-put_text-clause-room
returns-in_err-put_text-clause-room g c enough =
    not-refused _ _ c.in_err-put_text.was (c.put_text.ensures.room (omega (arith, length-encode_with upper_digits c.args.bytes.now)))

pub returns-in_err-put_text-2-clause-room : goal.returns-in_err-put_text-2-clause-room
returns-in_err-put_text-2-clause-room g c enough =
    let first = simp length-append at (ap length c.in_ok-put_text.ensures.ok) in
    not-refused _ _ c.in_err-put_text-2.was
    (c.put_text-2.ensures.room (omega (arith, length-encode_with upper_digits c.args.bytes.now, c.args.out.now.ok.0, c.put_text.new.out.ok.0)))
