-- The updates of pairs, undone.
use Rattle.std.proofs.Common.{◌≡◌, List, [], ◌∷◌, map, Option, Some, None, refl, ap}
use Rattle.std.specs.List.{filter_map}
use Rattle.blog_flash.specs.States.{inverse}
use Rattle.blog_merge.specs.Merge.{update_of}
use Rattle.blog_merge.specs.Pairs.{Pair}
use Rattle.blog_row.specs.Image.{Row}
use Rattle.blog_trans.specs.Changes.{Updated}
use Rattle.blog_merged.specs.Nets.{nets_of}

-- the update of a pair is undone by that to what its row would be
pub inverse_nets : (ps : List Pair) → map inverse (nets_of ps) ≡ filter_map update_of ps
inverse_nets [] = refl
inverse_nets (p ∷ ps) = by_case p.would refl (inverse_nets ps)
  where
    by_case : (o : Option Row) → p.would ≡ o → map inverse (nets_of ps) ≡ filter_map update_of ps → map inverse (nets_of (p ∷ ps)) ≡ filter_map update_of (p ∷ ps)
    by_case None is rest = rw is rest
    by_case (Some would) is rest = rw is (ap (λ cs. Updated p.table p.real would ∷ cs) rest)
