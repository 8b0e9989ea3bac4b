use Rattle.std.proofs.Common.{◌≡◌, ◌-◌, ◌++◌, length}
use Rattle.blog_source.proofs.Appending.{AreShortFrom, moved_left}
use Rattle.blog_source.proofs.append.put_moved.Given as goal

-- what is put so far, and what is left to be put; where all places are short, those that are left are
abbrev pub invariant-events : goal.invariant-events
invariant-events g l = record {
  text : l.out.items ++ moved_left l.start l.log l.at ≡ l.fn.out.items ++ moved_left l.start l.log l.first;
  short : AreShortFrom l.start l.log l.first → AreShortFrom l.start l.log l.at;
}

abbrev pub decreases-events : goal.decreases-events
decreases-events g l = length l.log - l.at
