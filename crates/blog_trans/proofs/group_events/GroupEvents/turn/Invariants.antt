use Rattle.std.proofs.Common.{◌≡◌, ◌-◌, true}
use Rattle.blog_trans.specs.code.GroupEventsView.{events_left}
use Rattle.blog_trans.proofs.group_events.GroupEvents.turn.Given as goal

abbrev pub invariant-statements : goal.invariant-statements
invariant-statements g l = record {
  index : l.self.index ≡ l.fn.self.index;
  left : events_left l.self ≡ events_left l.fn.self;
  opened : l.self.is_open ≡ true;
}

abbrev pub decreases-statements : goal.decreases-statements
decreases-statements g l = l.self.statements.end - l.self.statements.start
