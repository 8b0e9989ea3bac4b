-- Every stop behind a transaction stands.
use Rattle.blog_flash.proofs.theorems.every_stop_stands.Goals as goal
use Rattle.blog_flash.proofs.Stops.{flashback-stops}

pub returns : goal.returns
returns c = flashback-stops
