-- What counts hold of the rows of tables.
use Rattle.std.specs.Prelude.{◌≡◌, ◌≤◌, ℕ, Bool, false, List, [], map, length, slice_get, Option, Some, None, ◌+◌, ◌/◌}
use Rattle.std.specs.List.{list_any, position_or_len, IsDistinct}
use Rattle.blog_row.specs.TableMap.{Table}
use Rattle.blog_row.specs.declared.kind.RowsAction.{RowsAction}
use Rattle.blog_row.specs.declared.kind.RowsAction.TheVariants.{Write, Update, Delete}
use Rattle.blog_trans.specs.declared.counts.Count.{Count}
use Rattle.blog_trans.specs.declared.counts.Counts.{Counts}
use Rattle.blog_trans.specs.Acceptance.{is_same_table}
use Rattle.blog_trans.specs.Changes.{Change, TableCount, count_of, first_tables}

-- the numbers, and one row more for each image, or for each two of an update
abbrev pub with_images : RowsAction → ℕ → Count → Count
with_images Write n c = record c { inserts = c.inserts + n }
with_images Update n c = record c { updates = c.updates + n / 2 }
with_images Delete n c = record c { deletes = c.deletes + n }

-- the numbers of a table, nothing where none are held
abbrev pub counted : Table → Option Count → TableCount
counted t None = record { table = t; inserts = 0; updates = 0; deletes = 0 }
counted t (Some c) = record { table = t; inserts = c.inserts; updates = c.updates; deletes = c.deletes }

-- whether it is one of the tables of kept maps
abbrev pub is_kept : Option Count → Bool
is_kept None = false
is_kept (Some c) = c.kept

-- what is held of a table: its numbers, and whether it is one of those
abbrev pub told_of : Table → Option Count → TableCount × Bool
told_of t c = (counted t c, is_kept c)

-- the same of these changes and of the tables of these maps
abbrev pub facts_of : List Change → List Table → Table → TableCount × Bool
facts_of cs ts t = (count_of cs t, list_any (is_same_table t) ts)

-- These are the numbers of the changes, by table, and the tables of the kept maps in the order in which each comes first.
-- `tables` has the selected tables by their numbers: all that have changes, and each of them once.
pub record AreCounts {A : Type 0} (tables : List Table) (cs : List Change) (ts : List Table) (counts : Counts A) : Type 0 where
  pub told : (t : Table) → told_of t (slice_get counts.rows.items (position_or_len (is_same_table t) tables)) ≡ facts_of cs ts t
  pub firsts : map (λ n. slice_get tables n) counts.tables.items ≡ map Some (first_tables [] ts)
  pub few : length counts.rows.items ≤ length tables
  pub distinct : IsDistinct is_same_table tables
