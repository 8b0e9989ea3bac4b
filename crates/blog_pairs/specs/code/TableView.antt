-- What a contract sees of a table of pairs.
use Rattle.std.specs.Prelude.{List, Option, option_map}
use Rattle.blog_merge.specs.Pairs.{Pair}
use Rattle.blog_pairs.specs.Places.{present}
use Rattle.blog_pairs.specs.code.PairsView.{bodies_of, pair_by, slots_told}
use Rattle.blog_pairs.specs.declared.pairs.PairTable.{PairTable}
use Rattle.blog_pairs.specs.declared.row_pair.RowPair.{RowPair}

-- the places of pairs, of which some are empty
abbrev pub places_told : {A : Type 0} → PairTable A → List (Option Pair)
places_told t = slots_told (bodies_of t.tables.items) t.held.slots.items

-- the pairs, in order
abbrev pub pairs_told : {A : Type 0} → PairTable A → List Pair
pairs_told t = present (places_told t)

-- a pair as it is looked at
abbrev pub pair_seen : RowPair → Pair
pair_seen p = pair_by p.map.now p.real.now (option_map (λ image. image.now) p.would)
