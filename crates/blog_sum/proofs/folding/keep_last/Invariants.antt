use Rattle.std.proofs.Common.{◌≡◌, ◌*◌, length, take, drop}
use Rattle.blog_sum.proofs.folding.keep_last.Given as goal

-- what is moved so far, and what is still to be moved
abbrev pub invariant-parts : goal.invariant-parts
invariant-parts l = record {
  len : length l.scratch ≡ length l.initial.scratch;
  moved : take (16 * l.block) l.scratch ≡ take (16 * l.block) (drop l.folded l.initial.scratch);
  left : drop (16 * l.block) l.scratch ≡ drop (16 * l.block) l.initial.scratch;
}
