-- Maps of a table have one layout.
use Rattle.blog_flash.proofs.theorems.maps_agree_on_layouts.Goals as goal
use Rattle.blog_flash.proofs.Agreement.{maps-agree}

pub returns : goal.returns
returns c = maps-agree
