use Rattle.std.proofs.Common.{◌≡◌, length, map}
use Rattle.blog_row.specs.code.ValuesView.{value_bytes}
use Rattle.blog_pairs.proofs.NullBits.{MarksUpTo}
use Rattle.blog_pairs.proofs.nulls.mark_nulls.Given as goal

-- the bits of the values before this one are set
abbrev pub invariant-loop-value : goal.invariant-loop-value
invariant-loop-value l = record {
  at : l.i ≡ l.value-index;
  bits : MarksUpTo l.bitmap (map value_bytes l.row) l.i;
  len : length l.bitmap ≡ length l.fn.bitmap;
}
