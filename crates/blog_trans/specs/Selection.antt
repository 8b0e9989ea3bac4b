-- Which changes of a log are meant.
use Rattle.std.specs.Prelude.{ℕ, Bool, true, List, Option, Some, None, option_map, bytes_eq}
use Rattle.blog_trans.specs.declared.selection.Selection as told

-- A start position, a stop position, and the names of a schema and a table. A start below 4 lies before every event,
-- and so counts as 4.
pub record Selection : Type 0 where
  pub start : ℕ
  pub stop : Option ℕ
  pub database : Option (List ℕ)
  pub table : Option (List ℕ)

abbrev pub all : Selection
all = record { start = 4; stop = None; database = None; table = None }

-- a selection of the program, without where its names lie
abbrev pub selection_of : told.Selection → Selection
selection_of s = record { start = s.start; stop = s.stop; database = option_map (λ name. name.now) s.database; table = option_map (λ name. name.now) s.table }

-- a name is wanted, where one is given
abbrev pub is_wanted : Option (List ℕ) → List ℕ → Bool
is_wanted None name = true
is_wanted (Some wanted) name = bytes_eq name wanted
