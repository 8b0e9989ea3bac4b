-- Pairs of rows: what a row is, and what it would be had a mistake not been made.
use Rattle.std.specs.Prelude.{Bool, if◌then◌else◌, List, [], ◌∷◌, ◌++◌, map, Option, Some, option_map}
use Rattle.std.specs.List.{filter_map}
use Rattle.blog_row.specs.Image.{Row}
use Rattle.blog_row.specs.TableMap.{Table}
use Rattle.blog_flash.specs.States.{State, insert_row, is_row}
use Rattle.blog_undo.specs.Mixed.{TableRow, is_same_row}

-- a row of a table as it is, and as it would be; nothing if it wouldn't be there
pub record Pair : Type 0 where
  pub table : Table
  pub real : Row
  pub would : Option Row

-- ---- the rows of pairs

abbrev pub in_table : Table → Row → TableRow
in_table t r = record { table = t; row = r }

abbrev pub real_row : Pair → TableRow
real_row p = in_table p.table p.real

abbrev pub would_row : Pair → Option TableRow
would_row p = option_map (in_table p.table) p.would

abbrev pub real_rows : List Pair → List TableRow
real_rows ps = map real_row ps

-- those that would be there
abbrev pub would_rows : List Pair → List TableRow
would_rows ps = filter_map would_row ps

-- the state with one more copy of each of these rows
abbrev pub with_rows : List TableRow → State → State
with_rows [] state = state
with_rows (r ∷ rs) state = insert_row r.table r.row (with_rows rs state)

-- ---- the pair of a row

-- the pair is of this row
abbrev pub is_of : Table → Row → Pair → Bool
is_of t r p = is_row t r p.table p.real

-- what a row would be, by its first pair; a row without a pair is as it would be
abbrev pub would_be : Table → Row → List Pair → Option Row
would_be t r [] = Some r
would_be t r (p ∷ ps) = if is_of t r p then p.would else would_be t r ps

-- the pairs without the first one of a row
abbrev pub without : Table → Row → List Pair → List Pair
without t r [] = []
without t r (p ∷ ps) = if is_of t r p then ps else p ∷ without t r ps

-- a pair, unless its two rows are equal
abbrev pub unless_equal : Pair → List Pair
unless_equal p = if is_same_row (would_row p) (Some (real_row p)) then [] else p ∷ []

-- the pairs with a new one in the place of the first one of a row, or at the end if the row has none
abbrev pub put : Table → Row → Pair → List Pair → List Pair
put t r new [] = unless_equal new
put t r new (p ∷ ps) = if is_of t r p then unless_equal new ++ ps else p ∷ put t r new ps
