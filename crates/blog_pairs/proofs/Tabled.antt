-- Pairs of a table of pairs, where a table is held whose rows change.
use Rattle.std.proofs.Common.{◌≡◌, ◌<◌, ℕ, Bool, List, [], length, Option, Some, Ok, sym, ap, ◌∙◌, subst, arith}
use Rattle.std.specs.BTreeSet.{contains}
use Rattle.std.specs.Ordering.{nat_cmp}
use Rattle.std.proofs.lemmas.Option.{none-some}
use Rattle.blog_later.specs.Prints.{table_hasher}
use Rattle.blog_later.specs.code.EventChanges.{event_changes, image_changes, images_changes}
use Rattle.blog_later.proofs.EventChanges.{seen-changed}
use Rattle.blog_merge.specs.Pairs.{Pair}
use Rattle.blog_row.specs.Column.{Layout}
use Rattle.blog_row.specs.RowsEvent.{RowImages}
use Rattle.blog_row.specs.TableMap.{map_names}
use Rattle.blog_row.specs.code.LayoutView.{layout_columns}
use Rattle.blog_row.specs.code.RowsEventView.{rows_body, rows_kind}
use Rattle.blog_trans.specs.Changes.{table_of}
use Rattle.blog_trans.specs.code.GroupEventsView.{IsByMap, event_seen}
use Rattle.blog_trans.specs.declared.group_events.GroupEvent.TheVariants as given
use Rattle.blog_trans.specs.declared.group_events.GroupRows.{GroupRows}
use Rattle.blog_pairs.specs.Keys.{AreIndexed}
use Rattle.blog_pairs.specs.Places.{EachSlot, present}
use Rattle.blog_pairs.specs.Steps.{pairs_with, unmarked}
use Rattle.blog_pairs.specs.Tables.{AreApart, HasMore}
use Rattle.blog_pairs.specs.code.ChangedView.{IsTableOf}
use Rattle.blog_pairs.specs.code.ColumnsView.{columns_told}
use Rattle.blog_pairs.specs.code.EventRows.{event_rows}
use Rattle.blog_pairs.specs.code.PairsView.{Fits, IsKept, bodies_of, pairs_in, slots_told, table_at}
use Rattle.blog_pairs.specs.declared.changed.ChangedTable.{ChangedTable}
use Rattle.blog_pairs.specs.declared.held.HeldPair.{HeldPair}
use Rattle.blog_pairs.specs.declared.held.HeldPairs.{HeldPairs}
use Rattle.blog_pairs.specs.declared.held.HeldTable.{HeldTable}
use Rattle.blog_pairs.proofs.Holding.{known_table, told_more}
use Rattle.blog_pairs.proofs.Stepping.{make_ones, ones_long, ones_unmarked}

pub table_fits : {A : Type 0} (bodies : List (List ℕ)) (pairs : HeldPairs A) (body : List ℕ) (columns : Layout) (table : ChangedTable) → AreApart bodies → IsKept bodies pairs → IsTableOf bodies body columns table → Fits bodies pairs table
table_fits bodies pairs body columns table apart kept is = record {
  apart = apart;
  kept = kept;
  has = (is.has.0, is.has.1 ∙ ap Ok (sym is.same));
  hasher = is.hasher ∙ ap table_hasher (sym is.named);
}

pub told_same : {A : Type 0} (bodies all : List (List ℕ)) (pairs : HeldPairs A) → HasMore bodies all → IsKept bodies pairs → pairs_in all pairs.slots.items ≡ pairs_in bodies pairs.slots.items
told_same bodies all pairs more kept = ap (λ b. pairs_in b pairs.slots.items) more.1 ∙ ap present (told_more bodies more.0 pairs.slots.items kept.numbered)

-- without pairs and tables
pub none_kept : {A : Type 0} (bodies : List (List ℕ)) (pairs : HeldPairs A) → pairs.slots.items ≡ [] → IsKept bodies pairs
none_kept {A} bodies pairs none = record {
  numbered = subst (EachSlot (λ i (p : HeldPair A). p.table < length bodies)) (sym none) (λ i p at. absurd (none-some (Some p) at));
  indexed = subst (λ (slots : List (Option (HeldPair A))). AreIndexed (contains nat_cmp pairs.keys) (slots_told bodies slots)) (sym none) (λ i p at. absurd (none-some (Some p) at));
}

pub none_apart : {A : Type 0} (tables : List (HeldTable A)) → tables ≡ [] → AreApart (bodies_of tables)
none_apart tables none = subst (λ ts. AreApart (bodies_of ts)) (sym none) (λ i j i_in j_in same. absurd (omega (arith, i_in)))

-- the changes of a row of the table, by its body
pub with_row : (selected : Bool) (bodies : List (List ℕ)) (body : List ℕ) (columns : Layout) (table : ChangedTable) (before after : Option (List ℕ)) (old all new : List Pair) → IsTableOf bodies body columns table → all ≡ old
    → new ≡ pairs_with selected (image_changes (table_at bodies table.number) (columns_told table.columns) before after) all → new ≡ pairs_with selected (image_changes (table_of body) columns before after) old
with_row selected bodies body columns table before after old all new is same done =
    done
    ∙ ap (λ t. pairs_with selected (image_changes t (columns_told table.columns) before after) all) is.named
    ∙ ap (λ l. pairs_with selected (image_changes (table_of body) l before after) all) is.same
    ∙ ap (pairs_with selected (image_changes (table_of body) columns before after)) same

-- those of rows
pub with_rows : (selected : Bool) (bodies : List (List ℕ)) (body : List ℕ) (columns : Layout) (table : ChangedTable) (rows : List RowImages) (old all new : List Pair) → IsTableOf bodies body columns table → all ≡ old
    → new ≡ pairs_with selected (images_changes (table_at bodies table.number) (columns_told table.columns) rows) all → new ≡ pairs_with selected (images_changes (table_of body) columns rows) old
with_rows selected bodies body columns table rows old all new is same done =
    done
    ∙ ap (λ t. pairs_with selected (images_changes t (columns_told table.columns) rows) all) is.named
    ∙ ap (λ l. pairs_with selected (images_changes (table_of body) l rows) all) is.same
    ∙ ap (pairs_with selected (images_changes (table_of body) columns rows)) same

-- those of a rows event of groups
pub group_changes : (group : GroupRows) → IsByMap group → event_changes (event_seen (given.Rows group)) ≡ images_changes (table_of group.map.body.now) (layout_columns group.rows.layout) (event_rows group.rows)
group_changes group h = seen-changed group h ∙ ap (λ t. images_changes t (layout_columns group.rows.layout) (event_rows group.rows)) (sym (known_table group.map.body.now (map_names group.table) h.names))

-- they are as many as its rows
pub group_long : (group : GroupRows) → IsByMap group → length (event_changes (event_seen (given.Rows group))) ≡ length (event_rows group.rows)
group_long group h =
    let t = table_of group.map.body.now in
    let l = layout_columns group.rows.layout in
    ap length (group_changes group h) ∙ ones_long t l (event_rows group.rows) (make_ones (rows_kind group.rows).action t l (rows_body group.rows).images)

pub group_unmarked : (group : GroupRows) (marks : List Bool) → IsByMap group
    → unmarked marks (event_changes (event_seen (given.Rows group))) ≡ images_changes (table_of group.map.body.now) (layout_columns group.rows.layout) (unmarked marks (event_rows group.rows))
group_unmarked group marks h =
    let t = table_of group.map.body.now in
    let l = layout_columns group.rows.layout in
    ap (unmarked marks) (group_changes group h) ∙ sym (ones_unmarked t l (event_rows group.rows) marks (make_ones (rows_kind group.rows).action t l (rows_body group.rows).images))
