-- What is printed for rows, by their images, and for the summary.
use Rattle.std.proofs.Common.{◌≡◌, ℕ, List, [], ◌∷◌, ◌++◌, length, map, Option, refl, sym, ap, ap₂, ◌∙◌, length-append, arith}
use Rattle.std.proofs.lemmas.List.{length-map}
use Rattle.std.proofs.lemmas.List.Folds.{flat_map-map}
use Rattle.std.specs.Fmt.{decimal}
use Rattle.std.specs.Prelude.{codes}
use Rattle.std.specs.Option.{option_map_or}
use Rattle.std.specs.List.{flat_map}
use Rattle.blog_row.specs.declared.kind.RowsAction.{RowsAction}
use Rattle.blog_row.specs.declared.kind.RowsAction.TheVariants.{Write, Update, Delete}
use Rattle.blog_row.specs.Column.{Layout}
use Rattle.blog_row.specs.Image.{row_of}
use Rattle.blog_row.specs.code.LayoutView.{layout_columns}
use Rattle.blog_row.specs.RowsEvent.{updated_rows, rows_by}
use Rattle.blog_row.specs.code.RowsEventView.{rows_body}
use Rattle.blog_row.specs.TableMap.{Table, Names, layout_of, map_names}
use Rattle.blog_trans.specs.declared.group_events.GroupRows.{GroupRows}
use Rattle.blog_trans.specs.declared.group_events.GroupEvent.TheVariants as given
use Rattle.blog_trans.specs.Changes.{counts_of, Inserted, Deleted, Updated, updates, row_by, changes_by_action}
use Rattle.blog_trans.specs.Groups.{PlacedTransaction, Transaction, statement_value, transaction_value, placed_groups, groups}
use Rattle.blog_trans.specs.code.GroupEventsView.{event_seen, IsByMap}
use Rattle.blog_trans.specs.Selection.{Selection}
use Rattle.blog_trans.specs.code.Entries.{statements_in}
use Rattle.blog_flash.specs.Printed.{line, change_lines, count_line, summary_text}
use Rattle.blog_flash.specs.code.PrintedRows.{event_lines, images_lines}

-- ---- a rows event

-- updates by their images
updates-lines : (t : Table) (layout : Layout) (images : List (List ℕ)) → images_lines t layout (updated_rows images) ≡ flat_map change_lines (updates t (map (row_of layout) images))
updates-lines t layout [] = refl
updates-lines t layout (before ∷ []) = refl
updates-lines t layout (before ∷ after ∷ images) = ap (λ (text : List ℕ). change_lines (Updated t (row_of layout before) (row_of layout after)) ++ text) (updates-lines t layout images)

-- rows by their images
images-lines : (kind : RowsAction) (t : Table) (layout : Layout) (images : List (List ℕ)) → images_lines t layout (rows_by kind images) ≡ flat_map change_lines (changes_by_action kind t (map (row_of layout) images))
images-lines Write t layout images =
    flat_map-map _ _ images ∙ sym (flat_map-map change_lines (Inserted t) (map (row_of layout) images) ∙ flat_map-map (λ row. change_lines (Inserted t row)) (row_of layout) images)
images-lines Update t layout images = updates-lines t layout images
images-lines Delete t layout images =
    flat_map-map _ _ images ∙ sym (flat_map-map change_lines (Deleted t) (map (row_of layout) images) ∙ flat_map-map (λ row. change_lines (Deleted t row)) (row_of layout) images)

-- of a rows event that was read
abbrev lines_by : RowsAction → Table → List (List (Option (List ℕ))) → List ℕ
lines_by kind t rows = flat_map change_lines (changes_by_action kind t rows)

pub seen-lines : (group : GroupRows) → IsByMap group
    → event_lines (event_seen (given.Rows group)) ≡ images_lines (map_names group.table).table (layout_columns group.rows.layout) (rows_by group.rows.kind.action (rows_body group.rows).images)
seen-lines group h =
    let action = group.rows.kind.action in
    let images = (rows_body group.rows).images in
    let body = group.map.body.now in
    ap (λ (n : Option Names). lines_by action (option_map_or (λ names. names.table) n (record { schema = []; name = [] })) (map (row_by (layout_of body)) images)) h.names
    ∙ ap (λ l. lines_by action (map_names group.table).table (map (row_by l) images)) h.layout
    ∙ sym (images-lines action (map_names group.table).table (layout_columns group.rows.layout) images)

-- ---- the summary

-- as many statements as stand in the log
statements-count : (ts : List PlacedTransaction) → length (flat_map (λ t. t.statements) (map transaction_value ts)) ≡ statements_in ts
statements-count [] = refl
statements-count (x ∷ ts) =
    let one = length-append (map statement_value x.statements) (flat_map (λ (t : Transaction). t.statements) (map transaction_value ts)) in
    let other = length-append x.statements (flat_map (λ (t : PlacedTransaction). t.statements) ts) in
    omega (arith, one, other, length-map x.statements statement_value, statements-count ts)

-- its lines
pub summary-parts : (bytes : List ℕ) (sel : Selection) (t s : ℕ) → t ≡ length (placed_groups bytes sel) → s ≡ statements_in (placed_groups bytes sel)
    → summary_text (groups bytes sel) ≡ line (codes "transactions " ++ decimal t) ++ (line (codes "statements " ++ decimal s) ++ flat_map count_line (counts_of (groups bytes sel)))
unfolding summary_text groups
summary-parts bytes sel t s transactions statements =
    let ts = placed_groups bytes sel in
    ap₂ (λ (m n : ℕ). line (codes "transactions " ++ decimal m) ++ (line (codes "statements " ++ decimal n) ++ flat_map count_line (counts_of (map transaction_value ts))))
    (length-map ts transaction_value ∙ sym transactions) (statements-count ts ∙ sym statements)
