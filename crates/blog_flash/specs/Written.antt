-- Events that are to be written, as values, by what each of them is in its transaction.
use Rattle.std.specs.Prelude.{Bool, true, false, List, [], ◌∷◌, ◌++◌, map}
use Rattle.std.specs.List.{flat_map}
use Rattle.blog_event.specs.Event.{Event}
use Rattle.blog_trans.specs.Groups.{RowsEvent, Statement, Transaction}
use Rattle.blog_flash.specs.Texts.{rows_event}

-- `BEGIN` or the end event, a table map, or a rows event, of which it is said whether it is the last of its statement
pub data Written : Type 0 where
  Same : (event : Event) → Written
  Maps : (event : Event) → Written
  Changes : (rows : RowsEvent) (last : Bool) → Written

abbrev pub event_written : Written → Event
event_written (Same event) = event
event_written (Maps event) = event
event_written (Changes rows last) = rows_event last rows

-- ---- of groups

abbrev pub rows_written : List RowsEvent → List Written
rows_written [] = []
rows_written (r ∷ []) = Changes r true ∷ []
rows_written (r ∷ s ∷ rows) = Changes r false ∷ rows_written (s ∷ rows)

abbrev pub statement_written : Statement → List Written
statement_written s = map Maps s.maps ++ rows_written s.rows

abbrev pub transaction_written : Transaction → List Written
transaction_written t = Same t.begin ∷ (flat_map statement_written t.statements ++ Same t.end ∷ [])

abbrev pub groups_written : List Transaction → List Written
groups_written ts = flat_map transaction_written ts
