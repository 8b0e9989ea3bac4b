-- The normal form keeps the selection.
use Rattle.blog_flash.proofs.theorems.forward_is_normal.Goals as goal
use Rattle.blog_flash.proofs.Headline.{forward-normal}

pub returns : goal.returns
returns c = forward-normal
