-- Pairs in slots, and which slot has the pair of a row.
use Rattle.std.specs.Prelude.{ℕ, suc, Bool, false, List, [], ◌∷◌, Option, Some, None, if◌then◌else◌, option_map, slice_get, ◌≡◌}
use Rattle.std.specs.List.{filter_map}
use Rattle.blog_merge.specs.Pairs.{Pair, is_of}
use Rattle.blog_row.specs.Image.{Row}
use Rattle.blog_row.specs.TableMap.{Table}

-- what is in the slots, in order
abbrev pub present : {X : Type 0} → List (Option X) → List X
present slots = filter_map (λ slot. slot) slots

-- it holds of what is in each slot, and of the slot's number
abbrev pub EachSlot : {X : Type 0} → (ℕ → X → Type 0) → List (Option X) → Type 0
EachSlot {X} P slots = (i : ℕ) (x : X) → slice_get slots i ≡ Some (Some x) → P i x

-- the slot has the pair of a row
abbrev pub is_in : Table → Row → Option Pair → Bool
is_in t r None = false
is_in t r (Some p) = is_of t r p

-- the number of the first such slot
abbrev pub place_of : Table → Row → List (Option Pair) → Option ℕ
place_of t r [] = None
place_of t r (slot ∷ slots) = if is_in t r slot then Some 0 else option_map suc (place_of t r slots)
