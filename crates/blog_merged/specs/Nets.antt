-- What a mistake did to rows that were changed since: an update of each from what it would be to what it is.
use Rattle.std.specs.Prelude.{List, Option, option_map}
use Rattle.std.specs.List.{filter_map}
use Rattle.blog_merge.specs.Pairs.{Pair}
use Rattle.blog_row.specs.Image.{Row}
use Rattle.blog_trans.specs.Changes.{Change, Updated}

-- nothing if the row wouldn't be there
abbrev pub net_of : Pair → Option Change
net_of p = option_map (λ (would : Row). Updated p.table would p.real) p.would

-- in the order of the pairs
abbrev pub nets_of : List Pair → List Change
nets_of ps = filter_map net_of ps
