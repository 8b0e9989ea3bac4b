use Rattle.std.proofs.Common.{◌≡◌, ◌++◌, ◌%◌}
use Rattle.blog_value.specs.Digits.{padded}
use Rattle.blog_value.specs.Decimals.{group_at, group_width, nines, without_zeros}
use Rattle.blog_value.proofs.decimal_texts.put_whole.Given as goal

-- what is left over and the first i groups are written, without zeros in front
abbrev pub invariant-groups : goal.invariant-groups
invariant-groups g l =
    l.out.items ≡ l.fn.out.items ++ without_zeros (padded (l.digits % 9) (group_at (l.digits % 9) 0 l.bytes) ++ nines l.i (group_width (l.digits % 9)) l.bytes)
