-- What a contract sees of kept changes.
use Rattle.std.specs.Prelude.{ℕ, Bool, List, [], length, map, Option, Some, None, nat_lt, option_map, slice_index_or}
use Rattle.std.specs.List.{list_all}
use Rattle.blog_later.specs.Prints.{print_of}
use Rattle.blog_merge.specs.Pairs.{in_table}
use Rattle.blog_row.specs.TableMap.{layout_of}
use Rattle.blog_trans.specs.Changes.{Change, Deleted, Updated, row_by, table_of}
use Rattle.blog_followed.specs.declared.held.KeptChange.{KeptChange}
use Rattle.blog_followed.specs.declared.held.KeptMap.{KeptMap}

-- the bodies of table maps
abbrev pub bodies_of : {A : Type 0} → List (KeptMap A) → List (List ℕ)
bodies_of maps = map (λ m. m.body.items) maps

abbrev pub body_at : List (List ℕ) → ℕ → List ℕ
body_at bodies n = slice_index_or bodies n []

-- the fingerprint of a row, by its image and the body of its table map
abbrev pub image_print : List ℕ → List ℕ → ℕ
image_print body image = print_of (in_table (table_of body) (row_by (layout_of body) image))

-- a change that takes a row, by its images and the body of its table map
abbrev pub change_by : List ℕ → List ℕ → Option (List ℕ) → Change
change_by body before None = Deleted (table_of body) (row_by (layout_of body) before)
change_by body before (Some after) = Updated (table_of body) (row_by (layout_of body) before) (row_by (layout_of body) after)

abbrev pub change_told : {A : Type 0} → List (List ℕ) → KeptChange A → Change
change_told bodies c = change_by (body_at bodies c.map) c.before.items (option_map (λ image. image.items) c.after)

-- in order
abbrev pub changes_told : {A : Type 0} → List (List ℕ) → List (KeptChange A) → List Change
changes_told bodies cs = map (change_told bodies) cs

-- the table map of each is among those with these bodies
abbrev pub are_numbered : {A : Type 0} → List (List ℕ) → List (KeptChange A) → Bool
are_numbered bodies cs = list_all (λ c. nat_lt c.map (length bodies)) cs
