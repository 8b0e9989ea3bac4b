-- The numbers of the selected tables: their places among the tables whose layouts are known.
use Rattle.std.proofs.Common.{rules, ◌≡◌, ℕ, false, List, [], ◌∷◌, ◌++◌, map, slice_get, Option, Some, None, option_map, is_some, refl, sym, ap, ◌∙◌, arith}
use Rattle.std.specs.Prelude.{IfSome}
use Rattle.std.specs.List.{list_any, position_or_len, AllByRecursion}
use Rattle.std.specs.Map.{keys_of}
use Rattle.std.proofs.lemmas.List.{map-append}
use Rattle.std.proofs.lemmas.Option.{slice_get-map}
use Rattle.std.proofs.lemmas.Map.Made.{is_some-lookup}
use Rattle.indexmap.specs.IndexMap.{IndexMap, get, keys, insert_entry, insert_index}
use Rattle.indexmap.proofs.CallerLemmas.{insert_entry-new, keys-insert_entry-present}
use Rattle.blog_row.specs.declared.layout.Layout.{Layout}
use Rattle.blog_row.specs.TableMap.{Table, Names, names_of}
use Rattle.blog_trans.specs.declared.checker.MapSeen.{MapSeen}
use Rattle.blog_trans.specs.declared.table_name.TableName.{TableName}
use Rattle.blog_trans.specs.Acceptance.{is_same_table}
use Rattle.blog_trans.specs.code.CheckerView.{is_same_name}
use Rattle.blog_trans.specs.code.TablesView.{table_named, tables_known, HaveGrown, IsNumbered}
use Rattle.blog_trans.proofs.Growing.{get-behind}
use Rattle.blog_trans.proofs.PlacedParts.{any-map}
use Rattle.blog_trans.proofs.EntriesFound.{get_front}
use Rattle.blog_trans.proofs.Tables.{same-table}

-- ---- the number of a name

-- what stands at a number among the selected tables
pub named_at : {S : Type 0} (layouts : IndexMap TableName Layout S) (n : ℕ) (e : Option (TableName × Layout)) → slice_get layouts.entries n ≡ e
    → slice_get (tables_known layouts) n ≡ option_map (λ x. table_named x.0) e
named_at layouts n e at = grind (arith, slice_get-map)

-- in a list of entries a name that is inserted stands where it was found, or else at the end
placed : (es : List (TableName × Layout)) (name : TableName) (layout : Layout)
    → slice_get (map table_named (keys_of (insert_entry is_same_name es name layout))) (position_or_len (is_same_name name) (keys_of es)) ≡ Some (table_named name)
placed [] name layout = refl
placed (e ∷ es) name layout = search (rules, placed es name layout, same-table, get-behind)

-- a name stands where it was inserted
pub inserted-number : {S : Type 0} (layouts after : IndexMap TableName Layout S) (name : TableName) (layout : Layout) → after.entries ≡ insert_entry is_same_name layouts.entries name layout
    → slice_get (tables_known after) (insert_index is_same_name layouts name) ≡ Some (table_named name)
inserted-number layouts after name layout entries = grind (arith, placed)

-- the tables stay where it was there
pub tables-stay : {S : Type 0} (layouts after : IndexMap TableName Layout S) (name : TableName) (layout known : Layout) → get is_same_name layouts name ≡ Some known
    → after.entries ≡ insert_entry is_same_name layouts.entries name layout → tables_known after ≡ tables_known layouts
tables-stay layouts after name layout known there entries = grind (arith, keys-insert_entry-present)

-- and stands behind the others, of which it is none
pub tables-more : {S : Type 0} (layouts after : IndexMap TableName Layout S) (name : TableName) (layout : Layout) → get is_same_name layouts name ≡ None
    → after.entries ≡ insert_entry is_same_name layouts.entries name layout
    → (tables_known after ≡ tables_known layouts ++ table_named name ∷ []) × (list_any (is_same_table (table_named name)) (tables_known layouts) ≡ false)
tables-more layouts after name layout none entries = (
  grind (arith, insert_entry-new is_same_name layouts name layout none, map-append),
  any-map table_named (is_same_table (table_named name)) (keys layouts) ∙ sym (is_some-lookup (is_same_name name) layouts.entries) ∙ ap is_some none,
)

-- ---- one more table

-- a table keeps its number
get-grown : (before after : List Table) (n : ℕ) (t : Table) → HaveGrown before after → slice_get before n ≡ Some t → slice_get after n ≡ Some t
get-grown before after n t grown found = grind (arith, get_front)

one-grown : (before after : List Table) (m : MapSeen) → HaveGrown before after → IsNumbered before m → IsNumbered after m
one-grown before after m grown is = grind (arith, get-grown)

pub numbered-grown : (before after : List Table) (ms : List MapSeen) → HaveGrown before after → AllByRecursion (IsNumbered before) ms → AllByRecursion (IsNumbered after) ms
numbered-grown before after [] grown all = tt
numbered-grown before after (m ∷ ms) grown all = (one-grown before after m grown all.0, numbered-grown before after ms grown all.1)

-- ---- the map of a selected table

-- a new map has its table's number, and isn't used yet
pub new-numbered : (tables : List Table) (v : MapSeen) (n : Names) → names_of v.body.now ≡ Some n → IfSome v.table (λ t. slice_get tables t.number ≡ Some n.table) → v.used ≡ false → IsNumbered tables v
new-numbered tables v n names number unused = grind arith
