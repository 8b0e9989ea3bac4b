-- The events of groups one after the other, in the order in which they are written: that of the log, or backward.
use Rattle.std.specs.Prelude.{◌≡◌, ℕ, ◌+◌, Bool, true, false, List, [], ◌∷◌, ◌++◌, map, reverse}
use Rattle.std.specs.List.{flat_map}
use Rattle.std.specs.declared.ops.Range.{Range}
use Rattle.blog_event.specs.File.{Placed}
use Rattle.blog_row.specs.declared.order.Order.{Order}
use Rattle.blog_row.specs.declared.order.Order.TheVariants.{Forward, Backward}
use Rattle.blog_trans.specs.Groups.{PlacedRows, PlacedStatement, PlacedTransaction}

pub data GroupEvent : Type 0 where
  Begins : (event : Placed) → GroupEvent
  Maps : (event : Placed) → GroupEvent
  Changes : (rows : PlacedRows) (last : Bool) → GroupEvent
  Ends : (event : Placed) → GroupEvent

abbrev pub in_order : {A : Type 0} → Order → List A → List A
in_order Forward xs = xs
in_order Backward xs = reverse xs

-- the number that comes first in an order is taken
abbrev pub TakesNumber : Order → Range ℕ → ℕ → Range ℕ → Type 0
TakesNumber Forward before n after = (n ≡ before.start) × (after.start ≡ before.start + 1) × (after.end ≡ before.end)
TakesNumber Backward before n after = (n + 1 ≡ before.end) × (after.start ≡ before.start) × (after.end ≡ n)

-- the rows events of a statement; of the last one it is said that it is
abbrev pub rows_in_turn : List PlacedRows → List GroupEvent
rows_in_turn [] = []
rows_in_turn (r ∷ []) = Changes r true ∷ []
rows_in_turn (r ∷ s ∷ rows) = Changes r false ∷ rows_in_turn (s ∷ rows)

-- its maps in the order of the log, and then its rows events
abbrev pub statement_in_turn : Order → PlacedStatement → List GroupEvent
statement_in_turn order s = map Maps s.maps ++ rows_in_turn (in_order order s.rows)

-- `BEGIN`, the statements, and the end event
abbrev pub transaction_in_turn : Order → PlacedTransaction → List GroupEvent
transaction_in_turn order t = Begins t.begin ∷ (flat_map (statement_in_turn order) (in_order order t.statements) ++ Ends t.end ∷ [])

unfoldable pub in_turn : Order → List PlacedTransaction → List GroupEvent
in_turn order ts = flat_map (transaction_in_turn order) (in_order order ts)
