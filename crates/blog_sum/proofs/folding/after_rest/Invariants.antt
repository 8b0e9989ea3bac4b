use Rattle.std.proofs.Common.{◌≡◌, ◌*◌}
use Rattle.blog_sum.proofs.Rest.{rest_after}
use Rattle.blog_sum.proofs.folding.after_rest.Given as goal

-- the register so far
abbrev pub invariant-parts : goal.invariant-parts
invariant-parts l = l.register ≡ rest_after (16 * l.block) l.bytes l.scratch
