use Rattle.std.proofs.Common.{drop}
use Rattle.blog_split.proofs.Flags.{AreLeft}
use Rattle.blog_split.proofs.piece_maps.unmark.Given as goal

-- only the marks that are still ahead are left
abbrev pub invariant-loop-number : goal.invariant-loop-number
invariant-loop-number g l = AreLeft (drop l.number-index l.fn.used.items) l.flags
