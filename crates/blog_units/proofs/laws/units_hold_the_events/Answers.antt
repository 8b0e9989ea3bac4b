use Rattle.blog_units.proofs.Held.{holds-the-events}
use Rattle.blog_units.proofs.laws.units_hold_the_events.Goals as goal

pub returns : goal.returns
returns c = holds-the-events
