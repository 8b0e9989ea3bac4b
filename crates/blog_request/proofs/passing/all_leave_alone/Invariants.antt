use Rattle.std.proofs.Common.{◌≡◌, ◌-◌, length}
use Rattle.blog_event.specs.code.LogView.{log_bytes}
use Rattle.blog_choice.specs.code.ChosenView.{names_choice}
use Rattle.blog_request.specs.Passing.{all_leave_alone, unit_events}
use Rattle.blog_request.proofs.passing.all_leave_alone.Given as goal

-- each of those that are left does where each of all does
abbrev pub invariant-events : goal.invariant-events
invariant-events g l =
    all_leave_alone (names_choice l.names) l.inside (unit_events (log_bytes l.log) l.at l.stop)
    ≡ all_leave_alone (names_choice l.names) l.inside (unit_events (log_bytes l.log) l.start l.stop)

abbrev pub decreases-events : goal.decreases-events
decreases-events g l = length (log_bytes l.log) - l.at
