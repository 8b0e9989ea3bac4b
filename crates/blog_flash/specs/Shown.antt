-- The maps by which the rows events of groups go.
use Rattle.std.specs.Prelude.{◌≡◌, List, Contains}
use Rattle.std.specs.List.{AllByRecursion}
use Rattle.blog_event.specs.File.{Placed}
use Rattle.blog_row.specs.RowsEvent.{table_id}
use Rattle.blog_trans.specs.Groups.{PlacedRows, PlacedTransaction}

-- a rows event goes by the one of these maps that has its table id
pub record GoesByMapOf (maps : List Placed) (r : PlacedRows) : Type 0 where
  pub among : Contains maps r.map
  pub id : table_id r.map.event.body ≡ table_id r.event.event.body

-- each rows event of the groups goes by a map of its statement
abbrev pub GoByOwnMaps : List PlacedTransaction → Type 0
GoByOwnMaps ts = AllByRecursion (λ t. AllByRecursion (λ s. AllByRecursion (GoesByMapOf s.maps) s.rows) t.statements) ts
