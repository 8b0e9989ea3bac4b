-- The values of an option.
use Rattle.std.proofs.Common.{rules, ◌≡◌, List, [], Option, Some, None}
use Rattle.std.specs.Prelude.{option_map}
use Rattle.std.specs.Option.{option_map_or}

-- what an option has, where it is there
pub mapped : {A B : Type 0} (f : A → List B) (o : Option A) (ys : List B) → option_map f o ≡ Some ys → option_map_or f o [] ≡ ys
mapped f None ys is = absurd (cc)
mapped f (Some x) ys is = search rules
