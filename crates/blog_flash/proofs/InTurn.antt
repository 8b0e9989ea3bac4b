-- The events of groups in turn, as they are written, are those of the groups in that order.
use Rattle.std.proofs.Common.{◌≡◌, ℕ, false, length, List, [], ◌∷◌, ◌++◌, map, reverse, refl, sym, ap, ap₂, ◌∙◌}
use Rattle.std.specs.List.{flat_map}
use Rattle.std.proofs.lemmas.List.{map-append}
use Rattle.std.proofs.lemmas.List.Folds.{flat_map-map}
use Rattle.std.proofs.lemmas.Simd.{map-map}
use Rattle.blog_row.specs.declared.order.Order.{Order}
use Rattle.blog_row.specs.declared.order.Order.TheVariants.{Forward, Backward}
use Rattle.blog_event.specs.Event.{Event}
use Rattle.blog_event.specs.File.{end_of}
use Rattle.blog_trans.specs.Groups.{PlacedRows, PlacedStatement, PlacedTransaction, RowsEvent, Statement, Transaction, event_value, rows_value, statement_value, transaction_value}
use Rattle.blog_trans.specs.code.InTurn.{Maps, Changes, Ends, in_order, in_turn, rows_in_turn, statement_in_turn, transaction_in_turn}
use Rattle.blog_flash.specs.code.LaidOut.{text_from, turned, groups_in, rows_in, statement_in, transaction_in, written_event, written_in}
use Rattle.blog_flash.specs.Reversal.{reversed_rows, reversed_statement, reversed_transaction}
use Rattle.blog_flash.specs.Texts.{group_events, rows_events, statement_events, transaction_events}
use Rattle.blog_flash.specs.Written as written
use Rattle.blog_flash.specs.Written.{Written, event_written, groups_written, rows_written, statement_written, transaction_written}
use Rattle.blog_flash.proofs.Reversing.{map-reverse}

-- ---- parts in an order

-- the values of elements, each in the order
values-turned : {A B : Type 0} (f : Order → B → B) (undone : B → B) (value : A → B) → ((x : A) → f Forward (value x) ≡ value x) → ((x : A) → f Backward (value x) ≡ undone (value x))
    → (order : Order) (xs : List A) → map (λ x. f order (value x)) (in_order order xs) ≡ turned order undone (map value xs)
values-turned f undone value same back Forward xs = λ i. map (λ x. same x i) xs
values-turned f undone value same back Backward xs = map-reverse (λ x. f Backward (value x)) xs ∙ (λ i. reverse (map (λ x. back x i) xs)) ∙ ap reverse (sym (map-map undone value xs))

-- parts one after the other, each as it is written
parts-written : {A B C : Type 0} (f : B → C) (g : A → List B) (h : A → List C) → ((x : A) → map f (g x) ≡ h x) → (xs : List A) → map f (flat_map g xs) ≡ flat_map h xs
parts-written f g h is [] = refl
parts-written f g h is (x ∷ xs) = map-append f (g x) (flat_map g xs) ∙ ap₂ ◌++◌ (is x) (parts-written f g h is xs)

-- ---- groups

rows-each : (order : Order) (rs : List PlacedRows) → map (written_in order) (rows_in_turn rs) ≡ rows_written (map (λ r. rows_in order (rows_value r)) rs)
rows-each order [] = refl
rows-each order (r ∷ []) = refl
rows-each order (r ∷ s ∷ rs) = ap (λ es. written_in order (Changes r false) ∷ es) (rows-each order (s ∷ rs))

statement-in-turn : (order : Order) (s : PlacedStatement) → map (written_in order) (statement_in_turn order s) ≡ statement_written (statement_in order (statement_value s))
statement-in-turn order s =
    map-append (written_in order) (map Maps s.maps) (rows_in_turn (in_order order s.rows))
    ∙ ap₂ ◌++◌ (map-map (written_in order) Maps s.maps ∙ sym (map-map written.Maps event_value s.maps))
    (rows-each order (in_order order s.rows) ∙ ap rows_written (values-turned rows_in reversed_rows rows_value (λ r. refl) (λ r. refl) order s.rows))

transaction-in-turn : (order : Order) (t : PlacedTransaction) → map (written_in order) (transaction_in_turn order t) ≡ transaction_written (transaction_in order (transaction_value t))
transaction-in-turn order t =
    ap (λ es. written.Same (event_value t.begin) ∷ es)
    (map-append (written_in order) (flat_map (statement_in_turn order) (in_order order t.statements)) (Ends t.end ∷ [])
    ∙ ap (λ es. es ++ written.Same (event_value t.end) ∷ [])
    (parts-written (written_in order) (statement_in_turn order) (λ s. statement_written (statement_in order (statement_value s))) (statement-in-turn order) (in_order order t.statements)
    ∙ sym (flat_map-map statement_written (λ s. statement_in order (statement_value s)) (in_order order t.statements))
    ∙ ap (flat_map statement_written) (values-turned statement_in reversed_statement statement_value (λ s. refl) (λ s. refl) order t.statements)))

pub written-in-turn : (order : Order) (ts : List PlacedTransaction) → map (written_in order) (in_turn order ts) ≡ groups_written (groups_in order (map transaction_value ts))
unfolding in_turn
written-in-turn order ts =
    parts-written (written_in order) (transaction_in_turn order) (λ t. transaction_written (transaction_in order (transaction_value t))) (transaction-in-turn order) (in_order order ts)
    ∙ sym (flat_map-map transaction_written (λ t. transaction_in order (transaction_value t)) (in_order order ts))
    ∙ ap groups_written (values-turned transaction_in reversed_transaction transaction_value (λ t. refl) (λ t. refl) order ts)

-- ---- their events

rows-events : (rs : List RowsEvent) → map event_written (rows_written rs) ≡ rows_events rs
rows-events [] = refl
rows-events (r ∷ []) = refl
rows-events (r ∷ s ∷ rs) = ap (λ es. event_written (written.Changes r false) ∷ es) (rows-events (s ∷ rs))

same-events : (es : List Event) → map event_written (map written.Maps es) ≡ es
same-events [] = refl
same-events (e ∷ es) = ap (λ (fs : List Event). e ∷ fs) (same-events es)

statement-events-are : (s : Statement) → map event_written (statement_written s) ≡ statement_events s
statement-events-are s = map-append event_written (map written.Maps s.maps) (rows_written s.rows) ∙ ap₂ ◌++◌ (same-events s.maps) (rows-events s.rows)

transaction-events-are : (t : Transaction) → map event_written (transaction_written t) ≡ transaction_events t
transaction-events-are t =
    ap (λ es. t.begin ∷ es)
    (map-append event_written (flat_map statement_written t.statements) (written.Same t.end ∷ [])
    ∙ ap (λ es. es ++ t.end ∷ []) (parts-written event_written statement_written statement_events statement-events-are t.statements))

pub events-of-written : (ts : List Transaction) → map event_written (groups_written ts) ≡ group_events ts
events-of-written ts = parts-written event_written transaction_written transaction_events transaction-events-are ts

pub events-in-turn : (order : Order) (ts : List PlacedTransaction) → map (written_event order) (in_turn order ts) ≡ group_events (groups_in order (map transaction_value ts))
events-in-turn order ts =
    sym (map-map event_written (written_in order) (in_turn order ts)) ∙ ap (map event_written) (written-in-turn order ts) ∙ events-of-written (groups_in order (map transaction_value ts))

-- events of groups that are laid out behind bytes
pub written-text : (front : List ℕ) (ts : List Transaction) (ws : List Written) → ws ≡ groups_written ts
    → front ++ text_from (length front) (map event_written ws) ≡ front ++ text_from (length front) (group_events ts)
written-text front ts ws is = ap (λ es. front ++ text_from (length front) es) (ap (map event_written) is ∙ events-of-written ts)

-- and where they end
pub written-end : (n : ℕ) (ts : List Transaction) (ws : List Written) → ws ≡ groups_written ts → end_of n (map event_written ws) ≡ end_of n (group_events ts)
written-end n ts ws is = ap (end_of n) (ap (map event_written) is ∙ events-of-written ts)
