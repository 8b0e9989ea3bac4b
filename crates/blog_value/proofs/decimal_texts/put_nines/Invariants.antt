use Rattle.std.proofs.Common.{◌≡◌, ◌++◌}
use Rattle.blog_value.specs.Decimals.{nines}
use Rattle.blog_value.proofs.decimal_texts.put_nines.Given as goal

-- the first i groups are written
abbrev pub invariant-groups : goal.invariant-groups
invariant-groups g l = l.out.items ≡ l.fn.out.items ++ nines l.i 0 l.bytes
