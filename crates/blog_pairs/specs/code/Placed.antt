-- A pair in the place of another, and what a row would be by its place.
use Rattle.std.specs.Prelude.{ℕ, Bool, false, if◌then◌else◌, List, [], ◌∷◌, ◌++◌, Option, Some, None, option_map, option_and_then, slice_get, set}
use Rattle.std.specs.Cmp.Lexicographic.{pointwise}
use Rattle.blog_flash.specs.States.{is_same_value}
use Rattle.blog_row.specs.Column.{Layout}
use Rattle.blog_row.specs.Image.{row_of}
use Rattle.blog_pairs.specs.declared.held.HeldPair.{HeldPair}

-- the two images of a pair are of equal rows
abbrev pub are_equal : Layout → Option (List ℕ) → List ℕ → Bool
are_equal columns None real = false
are_equal columns (Some would) real = pointwise is_same_value (row_of columns would) (row_of columns real)

-- a pair, unless its two rows are equal
abbrev pub kept_pair : {A : Type 0} → Layout → HeldPair A → Option (HeldPair A)
kept_pair columns p = if are_equal columns (option_map (λ would. would.items) p.would) p.real.items then None else Some p

-- the slots with a new content of the place, or with a new slot at the end
abbrev pub placed : {X : Type 0} → Option ℕ → Option X → List (Option X) → List (Option X)
placed None None slots = slots
placed None (Some new) slots = slots ++ Some new ∷ []
placed (Some k) new slots = set slots k new

-- the image of what the row of a slot would be
abbrev pub would_told : {A : Type 0} → Option (HeldPair A) → Option (List ℕ)
would_told slot = option_and_then (λ p. option_map (λ would. would.items) p.would) slot

-- the image of what a row would be, by the slot of its pair; without one it is that of the row
abbrev pub would_at : {A : Type 0} → Option ℕ → List ℕ → List (Option (HeldPair A)) → Option (List ℕ)
would_at None image slots = Some image
would_at (Some k) image slots = option_and_then would_told (slice_get slots k)
