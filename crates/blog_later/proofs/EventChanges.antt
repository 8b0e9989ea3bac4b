-- The changes of events of groups in turn are those of the groups, and the changes of rows by their images those of their event.
use Rattle.std.proofs.Common.{◌≡◌, ℕ, List, [], ◌∷◌, ◌++◌, map, Option, refl, sym, ap, ap₂, ◌∙◌, append-nil}
use Rattle.std.specs.List.{flat_map}
use Rattle.std.specs.Option.{option_map_or}
use Rattle.std.proofs.lemmas.List.Concat.{flat_map-append}
use Rattle.std.proofs.lemmas.List.Folds.{flat_map-map}
use Rattle.blog_event.specs.File.{Placed}
use Rattle.blog_row.specs.Column.{Layout}
use Rattle.blog_row.specs.Image.{row_of}
use Rattle.blog_row.specs.RowsEvent.{rows_by}
use Rattle.blog_row.specs.TableMap.{Names, Table, layout_of, map_names}
use Rattle.blog_row.specs.code.LayoutView.{layout_columns}
use Rattle.blog_row.specs.code.RowsEventView.{rows_body}
use Rattle.blog_row.specs.declared.kind.RowsAction.{RowsAction}
use Rattle.blog_row.specs.declared.kind.RowsAction.TheVariants.{Write, Update, Delete}
use Rattle.blog_row.specs.declared.order.Order.TheVariants.{Forward}
use Rattle.blog_trans.specs.Changes.{Change, Deleted, Inserted, Updated, changes, changes_by_action, changes_of, changes_of_rows, changes_of_statement, changes_of_transaction, row_by}
use Rattle.blog_trans.specs.Groups.{PlacedRows, PlacedStatement, PlacedTransaction, groups, placed_groups, rows_value, statement_value, transaction_value}
use Rattle.blog_trans.specs.Selection.{Selection}
use Rattle.blog_trans.specs.code.GroupEventsView.{IsByMap, event_seen}
use Rattle.blog_trans.specs.code.InTurn.{Ends, Maps, in_turn, rows_in_turn, statement_in_turn, transaction_in_turn}
use Rattle.blog_trans.specs.declared.group_events.GroupEvent.TheVariants as given
use Rattle.blog_trans.specs.declared.group_events.GroupRows.{GroupRows}
use Rattle.blog_later.specs.code.EventChanges.{event_changes, events_changes, images_changes}

-- ---- events in turn

-- parts one after the other, each with its changes
parts-changed : {A B : Type 0} (f : B → List Change) (g : A → List B) (h : A → List Change) → ((x : A) → flat_map f (g x) ≡ h x) → (xs : List A) → flat_map f (flat_map g xs) ≡ flat_map h xs
parts-changed f g h is [] = refl
parts-changed f g h is (x ∷ xs) = flat_map-append f (g x) (flat_map g xs) ∙ ap₂ ◌++◌ (is x) (parts-changed f g h is xs)

rows-changed : (rs : List PlacedRows) → events_changes (rows_in_turn rs) ≡ flat_map (λ r. changes_of_rows (rows_value r)) rs
rows-changed [] = refl
rows-changed (r ∷ []) = refl
rows-changed (r ∷ s ∷ rs) = ap (λ (cs : List Change). changes_of_rows (rows_value r) ++ cs) (rows-changed (s ∷ rs))

maps-changed : (ms : List Placed) → events_changes (map Maps ms) ≡ []
maps-changed [] = refl
maps-changed (m ∷ ms) = maps-changed ms

statement-changed : (s : PlacedStatement) → events_changes (statement_in_turn Forward s) ≡ changes_of_statement (statement_value s)
statement-changed s =
    flat_map-append event_changes (map Maps s.maps) (rows_in_turn s.rows) ∙ ap₂ ◌++◌ (maps-changed s.maps) (rows-changed s.rows)
    ∙ sym (flat_map-map changes_of_rows rows_value s.rows)

transaction-changed : (t : PlacedTransaction) → events_changes (transaction_in_turn Forward t) ≡ changes_of_transaction (transaction_value t)
transaction-changed t =
    flat_map-append event_changes (flat_map (statement_in_turn Forward) t.statements) (Ends t.end ∷ [])
    ∙ append-nil (events_changes (flat_map (statement_in_turn Forward) t.statements))
    ∙ parts-changed event_changes (statement_in_turn Forward) (λ s. changes_of_statement (statement_value s)) statement-changed t.statements
    ∙ sym (flat_map-map changes_of_statement statement_value t.statements)

pub changed-in-turn : (ts : List PlacedTransaction) → events_changes (in_turn Forward ts) ≡ changes_of (map transaction_value ts)
unfolding in_turn
changed-in-turn ts =
    parts-changed event_changes (transaction_in_turn Forward) (λ t. changes_of_transaction (transaction_value t)) transaction-changed ts
    ∙ sym (flat_map-map changes_of_transaction transaction_value ts)

-- of the groups of a log
pub changed-groups : (bytes : List ℕ) (sel : Selection) → events_changes (in_turn Forward (placed_groups bytes sel)) ≡ changes bytes sel
unfolding groups
changed-groups bytes sel = changed-in-turn (placed_groups bytes sel)

-- ---- a rows event

-- by its images
images-changed : (action : RowsAction) (t : Table) (layout : Layout) (images : List (List ℕ)) → images_changes t layout (rows_by action images) ≡ changes_by_action action t (map (row_of layout) images)
images-changed Write t layout [] = refl
images-changed Write t layout (image ∷ images) = ap (λ (cs : List Change). Inserted t (row_of layout image) ∷ cs) (images-changed Write t layout images)
images-changed Update t layout [] = refl
images-changed Update t layout (before ∷ []) = refl
images-changed Update t layout (before ∷ after ∷ images) = ap (λ (cs : List Change). Updated t (row_of layout before) (row_of layout after) ∷ cs) (images-changed Update t layout images)
images-changed Delete t layout [] = refl
images-changed Delete t layout (image ∷ images) = ap (λ (cs : List Change). Deleted t (row_of layout image) ∷ cs) (images-changed Delete t layout images)

-- of one that was read
pub seen-changed : (group : GroupRows) → IsByMap group
    → event_changes (event_seen (given.Rows group)) ≡ images_changes (map_names group.table).table (layout_columns group.rows.layout) (rows_by group.rows.kind.action (rows_body group.rows).images)
seen-changed group h =
    let action = group.rows.kind.action in
    let images = (rows_body group.rows).images in
    let body = group.map.body.now in
    ap (λ (n : Option Names). changes_by_action action (option_map_or (λ names. names.table) n (record { schema = []; name = [] })) (map (row_by (layout_of body)) images)) h.names
    ∙ ap (λ l. changes_by_action action (map_names group.table).table (map (row_by l) images)) h.layout
    ∙ sym (images-changed action (map_names group.table).table (layout_columns group.rows.layout) images)
