use Rattle.std.proofs.Common.{◌≡◌, ◌-◌, length}
use Rattle.blog_source.specs.Places.{position_of}
use Rattle.blog_source.specs.code.SourceView.{log_of}
use Rattle.blog_source.proofs.Placing.{position_left}
use Rattle.blog_source.proofs.source.Source.position.Given as goal

-- the first of the events that are left decides
abbrev pub invariant-events : goal.invariant-events
invariant-events g l = position_left (log_of l.self) l.place l.at ≡ position_of (log_of l.self) l.place

abbrev pub decreases-events : goal.decreases-events
decreases-events g l = length (log_of l.self) - l.at
