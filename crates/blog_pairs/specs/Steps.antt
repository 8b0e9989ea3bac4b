-- The pairs after the changes of a row.
use Rattle.std.specs.Prelude.{Bool, if◌then◌else◌, List, [], ◌∷◌, map}
use Rattle.blog_merge.specs.Merge.{pairs_after}
use Rattle.blog_merge.specs.Pairs.{Pair}
use Rattle.blog_trans.specs.Changes.{Change}
use Rattle.blog_undo.specs.Mixed.{Marked}

-- changes that are all selected, or of which none is
abbrev pub marked_by : Bool → List Change → List Marked
marked_by selected cs = map (λ c. record { change = c; selected = selected }) cs

-- the pairs after them
abbrev pub pairs_with : Bool → List Change → List Pair → List Pair
pairs_with selected cs ps = pairs_after ps (marked_by selected cs)

-- of a list what isn't marked
abbrev pub unmarked : {X : Type 0} → List Bool → List X → List X
unmarked [] xs = xs
unmarked (mark ∷ marks) [] = []
unmarked (mark ∷ marks) (x ∷ xs) = if mark then unmarked marks xs else x ∷ unmarked marks xs
