use Rattle.std.specs.List.{IsDistinct}
use Rattle.blog_split.proofs.Flags.{flags-none}
use Rattle.blog_split.proofs.MapIds.{listed-none}
use Rattle.blog_split.proofs.cut_events.CutEvents.end_statement.Goals as goal

pub invariant_of-self-clause-listed : goal.invariant_of-self-clause-listed
invariant_of-self-clause-listed g c = rw (c.clear.ensures.items, c.clear-then-self.ensures.items) listed-none

pub invariant_of-self-clause-flagged : goal.invariant_of-self-clause-flagged
invariant_of-self-clause-flagged g c = rw (c.clear-then-self-2.ensures.items, c.clear-then-self-3.ensures.items) flags-none

pub invariant_of-self-clause-apart : goal.invariant_of-self-clause-apart
unfolding IsDistinct
invariant_of-self-clause-apart g c = rw (c.clear.ensures.items) tt
