-- What a contract sees of held pairs and of their tables.
use Rattle.std.specs.Prelude.{◌≡◌, ◌<◌, ◌==◌, ◌&&◌, ℕ, Bool, false, List, [], length, map, Option, Some, None, option_map, slice_index_or, Ok}
use Rattle.std.specs.BTreeSet.{contains}
use Rattle.std.specs.Cmp.Lexicographic.{pointwise}
use Rattle.std.specs.Ordering.{nat_cmp}
use Rattle.blog_flash.specs.States.{is_same_value}
use Rattle.blog_later.specs.Prints.{print_of, table_hasher}
use Rattle.blog_merge.specs.Pairs.{Pair, real_row}
use Rattle.blog_row.specs.Column.{Layout}
use Rattle.blog_row.specs.Image.{row_of}
use Rattle.blog_row.specs.TableMap.{Table, layout_of}
use Rattle.blog_trans.specs.Changes.{row_by, table_of}
use Rattle.blog_pairs.specs.Keys.{AreIndexed}
use Rattle.blog_pairs.specs.Places.{EachSlot, present}
use Rattle.blog_pairs.specs.Tables.{AreApart}
use Rattle.blog_pairs.specs.code.ColumnsView.{columns_told}
use Rattle.blog_pairs.specs.declared.changed.ChangedTable.{ChangedTable}
use Rattle.blog_pairs.specs.declared.held.HeldPair.{HeldPair}
use Rattle.blog_pairs.specs.declared.held.HeldPairs.{HeldPairs}
use Rattle.blog_pairs.specs.declared.held.HeldTable.{HeldTable}

-- ---- tables

-- the bodies of the table maps
abbrev pub bodies_of : {A : Type 0} → List (HeldTable A) → List (List ℕ)
bodies_of tables = map (λ t. t.body.items) tables

abbrev pub body_at : List (List ℕ) → ℕ → List ℕ
body_at bodies n = slice_index_or bodies n []

abbrev pub table_at : List (List ℕ) → ℕ → Table
table_at bodies n = table_of (body_at bodies n)

-- the table with the number has these columns
abbrev pub HasColumns : List (List ℕ) → ℕ → Layout → Type 0
HasColumns bodies n columns = (n < length bodies) × (layout_of (body_at bodies n) ≡ Ok columns)

-- ---- pairs

-- a pair by its images, of the table with the body
abbrev pub pair_by : List ℕ → List ℕ → Option (List ℕ) → Pair
pair_by body real would = record { table = table_of body; real = row_by (layout_of body) real; would = option_map (row_by (layout_of body)) would }

abbrev pub pair_told : {A : Type 0} → List (List ℕ) → HeldPair A → Pair
pair_told bodies p = pair_by (body_at bodies p.table) p.real.items (option_map (λ image. image.items) p.would)

abbrev pub slots_told : {A : Type 0} → List (List ℕ) → List (Option (HeldPair A)) → List (Option Pair)
slots_told bodies slots = map (option_map (pair_told bodies)) slots

-- the pairs in slots, in order
abbrev pub pairs_in : {A : Type 0} → List (List ℕ) → List (Option (HeldPair A)) → List Pair
pairs_in bodies slots = present (slots_told bodies slots)

-- a slot has the pair of a row of the table with the number
abbrev pub holds_row : {A : Type 0} → ℕ → Layout → List ℕ → Option (HeldPair A) → Bool
holds_row n columns image None = false
holds_row n columns image (Some p) = (p.table == n) && pointwise is_same_value (row_of columns image) (row_of columns p.real.items)

-- ---- what is known

-- the pair is of a table, and its real row has the fingerprint
abbrev pub HasPrint : {A : Type 0} → List (List ℕ) → HeldPair A → ℕ → Type 0
HasPrint bodies p print = (p.table < length bodies) × (print ≡ print_of (real_row (pair_told bodies p)))

-- the pairs are of tables, and are found by the fingerprints of their real rows
pub record IsKept {A : Type 0} (bodies : List (List ℕ)) (pairs : HeldPairs A) : Type 0 where
  pub numbered : EachSlot (λ i (p : HeldPair A). p.table < length bodies) pairs.slots.items
  pub indexed : AreIndexed (contains nat_cmp pairs.keys) (slots_told bodies pairs.slots.items)

-- so they are, and the table is one of the tables, which differ
pub record Fits {A : Type 0} (bodies : List (List ℕ)) (pairs : HeldPairs A) (table : ChangedTable) : Type 0 where
  pub apart : AreApart bodies
  pub kept : IsKept bodies pairs
  pub has : HasColumns bodies table.number (columns_told table.columns)
  pub hasher : table.hasher ≡ table_hasher (table_at bodies table.number)
