-- The written log undoes the selection.
use Rattle.blog_flash.proofs.theorems.flashback_undoes.Goals as goal
use Rattle.blog_flash.proofs.Headline.{flashback-undoes}

pub returns : goal.returns
returns c = flashback-undoes
