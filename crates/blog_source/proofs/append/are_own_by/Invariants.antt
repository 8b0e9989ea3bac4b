use Rattle.std.proofs.Common.{◌≡◌, ◌-◌, length}
use Rattle.blog_source.proofs.Ages.{left_by}
use Rattle.blog_source.proofs.append.are_own_by.Given as goal

-- the events that are left decide
abbrev pub invariant-events : goal.invariant-events
invariant-events l = left_by l.log l.server l.time l.at ≡ left_by l.log l.server l.time l.first

abbrev pub decreases-events : goal.decreases-events
decreases-events l = length l.log - l.at
