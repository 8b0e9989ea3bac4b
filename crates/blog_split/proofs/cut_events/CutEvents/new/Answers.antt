use Rattle.std.specs.List.{IsDistinct}
use Rattle.blog_split.proofs.Flags.{flags-none}
use Rattle.blog_split.proofs.MapIds.{listed-none}
use Rattle.blog_split.proofs.cut_events.CutEvents.new.Goals as goal

pub invariant_of-result-clause-listed : goal.invariant_of-result-clause-listed
invariant_of-result-clause-listed g c = rw (c.in-Ok.ensures.items, c.in-Ok-with_capacity.ensures.items) listed-none

pub invariant_of-result-clause-flagged : goal.invariant_of-result-clause-flagged
invariant_of-result-clause-flagged g c = rw (c.in-Ok-with_capacity-2.ensures.items, c.in-Ok-with_capacity-3.ensures.items) flags-none

pub invariant_of-result-clause-apart : goal.invariant_of-result-clause-apart
unfolding IsDistinct
invariant_of-result-clause-apart g c = rw (c.in-Ok.ensures.items) tt
