use Rattle.std.proofs.Common.{◌≤◌, ◌-◌, length}
use Rattle.blog_json.proofs.decimals.digits_front.Given as goal

-- no more digits are written than there is room for
abbrev pub invariant-groups : goal.invariant-groups
invariant-groups l = l.done ≤ length l.initial.digits

abbrev pub decreases-groups : goal.decreases-groups
decreases-groups l = length l.initial.digits - l.done
