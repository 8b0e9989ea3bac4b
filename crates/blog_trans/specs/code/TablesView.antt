-- What a contract sees of the selected tables, which have their numbers in the order of their first maps in the range.
use Rattle.std.specs.Prelude.{◌≡◌, true, false, List, [], ◌∷◌, ◌++◌, map, ◌⊎◌, Option, option_map, option_and_then, is_some, slice_get}
use Rattle.std.specs.List.{list_any}
use Rattle.indexmap.specs.IndexMap.{IndexMap, keys}
use Rattle.blog_row.specs.declared.layout.Layout.{Layout}
use Rattle.blog_row.specs.TableMap.{Table}
use Rattle.blog_trans.specs.declared.checker.MapSeen.{MapSeen}
use Rattle.blog_trans.specs.declared.table_name.TableName.{TableName}
use Rattle.blog_trans.specs.Acceptance.{is_same_table}
use Rattle.blog_trans.specs.Changes.{table_of}

-- the table of a name
abbrev pub table_named : TableName → Table
table_named name = record { schema = name.schema.now; name = name.table.now }

-- the tables whose layouts are known, by their numbers
abbrev pub tables_known : {S : Type 0} → IndexMap TableName Layout S → List Table
tables_known layouts = map table_named (keys layouts)

-- the same tables, or one more behind them
abbrev pub HaveGrown : List Table → List Table → Type 0
HaveGrown before after = (after ≡ before) ⊎ ((t : Table) × (after ≡ before ++ t ∷ []) × (list_any (is_same_table t) before ≡ false))

-- the table that a map was given by its number
abbrev pub table_at : List Table → MapSeen → Option Table
table_at tables m = option_and_then (λ t. slice_get tables t.number) m.table

-- a map of a selected table has its number, and others aren't used
pub record IsNumbered (tables : List Table) (m : MapSeen) : Type 0 where
  pub number : table_at tables m ≡ option_map (λ t. table_of m.body.now) m.table
  pub selected : m.used ≡ true → is_some m.table ≡ true
