use Rattle.std.proofs.Common.{◌*◌}
use Rattle.blog_row.specs.code.ImageView.{AreNull}
use Rattle.blog_row.proofs.rows_parts.is_full.Given as goal

-- the bits of the bytes so far are set
abbrev pub invariant-loop-byte : goal.invariant-loop-byte
invariant-loop-byte l = AreNull l.bitmap 0 (8 * l.byte-index)
