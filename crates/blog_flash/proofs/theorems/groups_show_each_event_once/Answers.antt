-- The groups show events of the range, each once, and rows events with their maps.
use Rattle.blog_flash.proofs.theorems.groups_show_each_event_once.Goals as goal
use Rattle.blog_flash.proofs.OwnMaps.{go-by-own-maps}
use Rattle.blog_trans.proofs.Shown.{shows-each-once}

pub returns-clause-maps : goal.returns-clause-maps
returns-clause-maps c = go-by-own-maps

pub returns-clause-once : goal.returns-clause-once
returns-clause-once c = λ bytes sel are accepted. shows-each-once bytes sel accepted
