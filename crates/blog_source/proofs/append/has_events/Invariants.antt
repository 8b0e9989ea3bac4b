use Rattle.std.proofs.Common.{◌≡◌, ◌-◌, length}
use Rattle.blog_source.proofs.Ages.{left_of_log}
use Rattle.blog_source.proofs.append.has_events.Given as goal

-- the events that are left decide
abbrev pub invariant-events : goal.invariant-events
invariant-events l = left_of_log l.log l.at ≡ left_of_log l.log l.first

abbrev pub decreases-events : goal.decreases-events
decreases-events l = length l.log - l.at
