use Rattle.std.proofs.Common.{◌≡◌, length, take}
use Rattle.blog_value.specs.Decimals.{plain_bytes}
use Rattle.blog_value.proofs.decimal_groups.plain_bytes.Given as goal

-- the first i bytes are written
abbrev pub invariant-others : goal.invariant-others
invariant-others l = record {
  front : take l.i l.plain ≡ take l.i (plain_bytes l.bytes);
  long : length l.plain ≡ 32;
}
