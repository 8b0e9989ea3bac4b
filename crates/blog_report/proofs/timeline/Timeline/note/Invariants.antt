use Rattle.std.proofs.Common.{◌≡◌}
use Rattle.blog_report.specs.code.TimelineView.{timeline_rows}
use Rattle.blog_report.proofs.timeline.Timeline.note.Given as goal

-- all its rows stay
abbrev pub invariant-doublings : goal.invariant-doublings
invariant-doublings g l = timeline_rows l.self ≡ timeline_rows l.fn.self
