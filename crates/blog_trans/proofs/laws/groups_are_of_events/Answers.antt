-- The groups are made of the events.
use Rattle.blog_trans.proofs.laws.groups_are_of_events.Goals as goal
use Rattle.blog_trans.proofs.PlacedFacts.{groups-among}

pub returns : goal.returns
returns c sel es = groups-among sel es
