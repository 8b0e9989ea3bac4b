use Rattle.std.proofs.Common.{◌≡◌, drop}
use Rattle.blog_sum.specs.Crc.{register_after}
use Rattle.blog_sum.proofs.register.after_tail.Given as goal

-- what is still to be done
abbrev pub invariant-bytes : goal.invariant-bytes
invariant-bytes l = register_after l.register (drop l.byte-index l.bytes) ≡ register_after l.fn.register l.bytes
