use Rattle.std.proofs.Common.{◌≡◌, ◌*◌, ◌-◌, take}
use Rattle.hex.specs.Hex.{encode_upper}
use Rattle.blog_flash.proofs.digits.write_sixteens.Given as goal

-- the digits of the bytes before a place
abbrev pub invariant-parts : goal.invariant-parts
invariant-parts l = take (2 * l.at) l.to ≡ encode_upper (take l.at l.bytes)

abbrev pub decreases-parts : goal.decreases-parts
decreases-parts l = l.last - l.at
