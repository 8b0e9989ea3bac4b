use Rattle.std.proofs.Common.{◌≡◌, ℕ, ◌+◌, ◌*◌, ◌<◌, length, take, drop, get_or}
use Rattle.blog_sum.specs.code.Folding.{AreFolded}
use Rattle.blog_sum.proofs.folding.fold.Given as goal

-- what is folded so far
abbrev pub invariant-parts : goal.invariant-parts
invariant-parts l = record {
  len : length l.scratch ≡ length l.initial.scratch;
  before : take 304 l.scratch ≡ take 304 l.initial.scratch;
  folded : AreFolded (16 * l.block) l.bytes l.scratch;
  behind : drop (304 + 16 * l.block) l.scratch ≡ drop (304 + 16 * l.block) l.initial.scratch;
  are_bytes : (k : ℕ) → get_or l.scratch k 0 < 256;
}
