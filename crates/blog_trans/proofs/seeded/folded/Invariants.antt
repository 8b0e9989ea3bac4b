use Rattle.std.proofs.Common.{◌≡◌, ◌<◌, ◌+◌, ◌-◌, ◌/◌, ◌%◌, length}
use Rattle.blog_trans.specs.code.SeededHash.{after_blocks}
use Rattle.blog_trans.proofs.seeded.folded.Given as goal

abbrev pub invariant-loop-at : goal.invariant-loop-at
invariant-loop-at l = (l.at % 16 ≡ 0) × (l.at < length l.bytes + 16) × (l.state ≡ after_blocks l.factor l.start l.bytes (l.at / 16))

abbrev pub decreases-loop-at : goal.decreases-loop-at
decreases-loop-at l = length l.bytes - l.at
