-- The maps of a kept statement are the first maps that are used.
use Rattle.blog_trans.proofs.laws.statements_have_used_maps.Goals as goal
use Rattle.blog_trans.proofs.ProgressMaps.{taken-maps}

pub returns : goal.returns
returns c sel earlier p o passed is = taken-maps sel earlier p o passed is
