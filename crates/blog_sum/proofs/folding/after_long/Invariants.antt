use Rattle.std.proofs.Common.{◌≡◌, ℕ, ◌≤◌, length}
use Rattle.blog_sum.specs.Crc.{register_after}
use Rattle.blog_sum.specs.code.Folding.{StandsFor}
use Rattle.blog_sum.proofs.folding.after_long.Given as goal

-- the register so far, and what is still to be done
abbrev pub invariant-chunks : goal.invariant-chunks
invariant-chunks l = record {
  register : ℕ;
  stands : StandsFor l.scratch register;
  same : register_after register l.bytes ≡ register_after l.fn.register l.fn.bytes;
  rest : 304 ≤ length l.bytes;
}

abbrev pub decreases-chunks : goal.decreases-chunks
decreases-chunks l = length l.bytes
