use Rattle.std.proofs.Common.{◌≡◌, length}
use Rattle.blog_sum.specs.Crc.{register_after}
use Rattle.blog_sum.proofs.register.after_bytes.Given as goal

-- what is still to be done
abbrev pub invariant-blocks-2 : goal.invariant-blocks-2
invariant-blocks-2 l = register_after l.register l.bytes ≡ register_after l.fn.register l.fn.bytes

abbrev pub decreases-blocks-2 : goal.decreases-blocks-2
decreases-blocks-2 l = length l.bytes
