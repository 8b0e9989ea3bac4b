-- The rows of a log and of updates by their bytes.
use Rattle.std.specs.Prelude.{◌≡◌, ℕ, List, [], ◌++◌, map, Some}
use Rattle.std.specs.List.{flat_map}
use Rattle.blog_row.specs.RowsEvent.{RowImages, rows_by}
use Rattle.blog_row.specs.declared.order.Order.TheVariants.{Forward}
use Rattle.blog_trans.specs.Groups.{placed_groups}
use Rattle.blog_trans.specs.Selection.{Selection}
use Rattle.blog_trans.specs.code.InTurn.{GroupEvent, Changes, in_turn}
use Rattle.blog_net.specs.declared.update.NetUpdate.{NetUpdate}

-- a row by the body of its table map, and by its images
pub record RowBytes : Type 0 where
  pub body : List ℕ
  pub images : RowImages

abbrev pub row_bytes : List ℕ → RowImages → RowBytes
row_bytes body images = record { body = body; images = images }

-- the row of an update
abbrev pub update_row : NetUpdate → RowBytes
update_row u = row_bytes u.map.body.now (record { before = Some u.before.now; after = Some u.after.now })

-- the rows of an event of groups
abbrev pub event_rows : GroupEvent → List RowBytes
event_rows (Changes rows last) = map (row_bytes rows.map.event.body) (rows_by rows.kind.action rows.body.images)
event_rows _ = []

abbrev pub events_rows : List GroupEvent → List RowBytes
events_rows events = flat_map event_rows events

-- the selected rows of a log
abbrev pub log_rows : List ℕ → Selection → List RowBytes
log_rows bytes sel = events_rows (in_turn Forward (placed_groups bytes sel))

-- ---- updates whose rows come first

-- the first updates are of these rows, and the others are left
abbrev pub IsBehind : List NetUpdate → List RowBytes → List NetUpdate → Type 0
IsBehind us rows left = map update_row us ≡ rows ++ map update_row left

-- the first updates aren't of these rows
abbrev pub AreOthers : List NetUpdate → List RowBytes → Type 0
AreOthers us rows = (more : List RowBytes) → ¬ (map update_row us ≡ rows ++ more)
