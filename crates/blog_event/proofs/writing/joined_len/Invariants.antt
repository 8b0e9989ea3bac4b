use Rattle.std.proofs.Common.{◌≡◌, ◌+◌, length, drop}
use Rattle.blog_event.specs.Writing.{joined}
use Rattle.blog_event.proofs.writing.joined_len.Given as goal

-- what is still to be added
abbrev pub invariant-loop-part : goal.invariant-loop-part
invariant-loop-part l = l.total + length (joined (drop l.part-index l.parts)) ≡ length (joined l.parts)
