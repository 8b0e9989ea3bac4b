use Rattle.std.proofs.Common.{◌≡◌, ◌-◌, length}
use Rattle.blog_event.specs.code.LogView.{log_bytes}
use Rattle.blog_request.specs.Passing.{has_begin, unit_events}
use Rattle.blog_request.proofs.passing.has_begin.Given as goal

-- one of those that are left does where one of all does
abbrev pub invariant-events : goal.invariant-events
invariant-events l = has_begin (unit_events (log_bytes l.log) l.at l.stop) ≡ has_begin (unit_events (log_bytes l.log) l.start l.stop)

abbrev pub decreases-events : goal.decreases-events
decreases-events l = length (log_bytes l.log) - l.at
