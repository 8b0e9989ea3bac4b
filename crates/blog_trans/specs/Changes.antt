-- The changes of rows that groups make, and their numbers by table (MySQL Internals manual, "Rows_event").
use Rattle.std.specs.Prelude.{ℕ, Bool, false, if◌then◌else◌, List, [], ◌∷◌, map, count_by, Result, Ok, Err}
use Rattle.std.specs.Option.{option_map_or}
use Rattle.std.specs.List.{flat_map, list_any}
use Rattle.blog_row.specs.declared.fault.RowFault.{RowFault}
use Rattle.blog_row.specs.declared.kind.RowsAction.{RowsAction}
use Rattle.blog_row.specs.declared.kind.RowsAction.TheVariants.{Write, Update, Delete}
use Rattle.blog_row.specs.Column.{Layout}
use Rattle.blog_row.specs.Image.{Row, row_of}
use Rattle.blog_row.specs.TableMap.{Table, names_of, layout_of}
use Rattle.blog_trans.specs.Selection.{Selection}
use Rattle.blog_trans.specs.Acceptance.{is_same_table}
use Rattle.blog_trans.specs.Groups.{RowsEvent, Statement, Transaction, groups}

-- one row changed
pub data Change : Type 0 where
  Inserted : (table : Table) (row : Row) → Change
  Deleted : (table : Table) (row : Row) → Change
  Updated : (table : Table) (before after : Row) → Change

-- ---- the changes of groups

-- the table of a map's body
abbrev pub table_of : List ℕ → Table
table_of body = option_map_or (λ names. names.table) (names_of body) (record { schema = []; name = [] })

-- the row of an image, by the layout of its map
abbrev pub row_by : Result Layout RowFault → List ℕ → Row
row_by (Ok layout) image = row_of layout image
row_by (Err fault) image = []

-- each two rows are one update
abbrev pub updates : Table → List Row → List Change
updates t [] = []
updates t (before ∷ []) = []
updates t (before ∷ after ∷ rows) = Updated t before after ∷ updates t rows

abbrev pub changes_by_action : RowsAction → Table → List Row → List Change
changes_by_action Write t rows = map (Inserted t) rows
changes_by_action Update t rows = updates t rows
changes_by_action Delete t rows = map (Deleted t) rows

abbrev pub changes_of_rows : RowsEvent → List Change
changes_of_rows r = changes_by_action r.content.kind.action (table_of r.map) (map (row_by (layout_of r.map)) r.content.images)

abbrev pub changes_of_statement : Statement → List Change
changes_of_statement s = flat_map changes_of_rows s.rows

abbrev pub changes_of_transaction : Transaction → List Change
changes_of_transaction t = flat_map changes_of_statement t.statements

abbrev pub changes_of : List Transaction → List Change
changes_of ts = flat_map changes_of_transaction ts

-- the selected changes of a log
abbrev pub changes : List ℕ → Selection → List Change
changes bytes sel = changes_of (groups bytes sel)

-- ---- their numbers by table

abbrev pub is_insert_into : Table → Change → Bool
is_insert_into t (Inserted u row) = is_same_table t u
is_insert_into t _ = false

abbrev pub is_update_of : Table → Change → Bool
is_update_of t (Updated u before after) = is_same_table t u
is_update_of t _ = false

abbrev pub is_delete_from : Table → Change → Bool
is_delete_from t (Deleted u row) = is_same_table t u
is_delete_from t _ = false

-- the numbers of rows that changes insert into a table, update in it and delete from it
pub record TableCount : Type 0 where
  pub table : Table
  pub inserts : ℕ
  pub updates : ℕ
  pub deletes : ℕ

abbrev pub count_of : List Change → Table → TableCount
count_of cs t = record { table = t; inserts = count_by (is_insert_into t) cs; updates = count_by (is_update_of t) cs; deletes = count_by (is_delete_from t) cs }

-- tables in the order in which each comes first; `seen` has those that came before
abbrev pub first_tables : List Table → List Table → List Table
first_tables seen [] = []
first_tables seen (t ∷ ts) = if list_any (is_same_table t) seen then first_tables seen ts else t ∷ first_tables (t ∷ seen) ts

-- the tables of the maps of groups
abbrev pub tables_of : List Transaction → List Table
tables_of ts = first_tables [] (flat_map (λ t. flat_map (λ s. map (λ m. table_of m.body) s.maps) t.statements) ts)

-- the numbers by table, in the order of its first map
abbrev pub counts_of : List Transaction → List TableCount
counts_of ts = map (count_of (changes_of ts)) (tables_of ts)
