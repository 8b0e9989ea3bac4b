-- What a contract sees of the tables that were seen.
use Rattle.std.specs.Prelude.{◌≡◌, ◌&&◌, Bool, true, false, List, bytes_eq}
use Rattle.std.specs.List.{list_any}
use Rattle.std.specs.HashSet.{HashSet, contains}
use Rattle.blog_row.specs.TableMap.{Table}
use Rattle.blog_choice.specs.Choice.{Choice}
use Rattle.blog_reasons.specs.declared.named.NamedTable.{NamedTable}
use Rattle.blog_reasons.specs.declared.tables.SeenTables.{SeenTables}
use Rattle.blog_reasons.specs.Reasons.{is_chosen}
use Rattle.blog_reasons.specs.code.NamedView.{table_value}
use Rattle.blog_reasons.specs.Near.{AreNear}

-- what was seen of these tables: whether one is chosen, and some of them
pub record AreSeenTables {A : Type 0} (choice : Choice) (tables : List Table) (seen : SeenTables A) : Type 0 where
  pub chosen : seen.has_chosen ≡ list_any (is_chosen choice) tables
  pub near : AreNear tables seen.near.items

-- equal names
abbrev pub is_same_named : NamedTable → NamedTable → Bool
is_same_named a b = bytes_eq a.schema.now b.schema.now && bytes_eq a.table.now b.table.now

-- none of the known tables is chosen, as long as none is found
abbrev pub AreKnown : {S : Type 0} → Choice → Bool → HashSet NamedTable S → Type 0
AreKnown choice has_chosen known = has_chosen ≡ false → (q : NamedTable) → contains is_same_named known q ≡ true → is_chosen choice (table_value q) ≡ false
