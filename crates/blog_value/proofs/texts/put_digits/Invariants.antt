use Rattle.std.proofs.Common.{◌-◌, ◌≡◌, ◌≤◌, ◌++◌, length, drop}
use Rattle.blog_value.specs.Digits.{in_digits}
use Rattle.blog_value.proofs.texts.put_digits.Given as goal

-- the last digits are written, and what is left has the others
abbrev pub invariant-places : goal.invariant-places
invariant-places g l = record {
  text : in_digits l.base (l.place - l.start) l.left ++ drop l.place l.digits ≡ in_digits l.base l.width l.n;
  within : l.place ≤ 64;
  from : l.start ≤ l.place;
  long : length l.digits ≡ 64;
}

abbrev pub decreases-places : goal.decreases-places
decreases-places g l = l.place - l.start
