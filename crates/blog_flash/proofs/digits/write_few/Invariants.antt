use Rattle.std.proofs.Common.{◌≡◌, ◌*◌, ◌++◌, take, drop}
use Rattle.hex.specs.Hex.{encode_upper}
use Rattle.blog_flash.proofs.digits.write_few.Given as goal

-- the digits of the bytes from i on are left
abbrev pub invariant-bytes : goal.invariant-bytes
invariant-bytes l =
    take (2 * l.i) l.to ++ encode_upper (drop l.i l.bytes) ≡ encode_upper l.bytes
