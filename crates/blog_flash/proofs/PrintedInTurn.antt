-- What is printed for the events of groups in turn is what their groups are printed as.
use Rattle.std.proofs.Common.{◌≡◌, ℕ, List, [], ◌∷◌, ◌++◌, map, refl, sym, ap, ap₂, ◌∙◌, append-nil}
use Rattle.std.specs.Prelude.{codes}
use Rattle.std.specs.List.{flat_map}
use Rattle.std.proofs.lemmas.List.Concat.{flat_map-append}
use Rattle.std.proofs.lemmas.List.Folds.{flat_map-map}
use Rattle.blog_event.specs.File.{Placed}
use Rattle.blog_row.specs.declared.order.Order.TheVariants.{Forward}
use Rattle.blog_trans.specs.Changes.{changes_of_rows, changes_of_statement}
use Rattle.blog_trans.specs.Groups.{PlacedRows, PlacedStatement, PlacedTransaction, rows_value, statement_value, transaction_value, placed_groups, groups}
use Rattle.blog_trans.specs.Selection.{Selection}
use Rattle.blog_trans.specs.code.InTurn.{Maps, Ends, in_turn, rows_in_turn, statement_in_turn, transaction_in_turn}
use Rattle.blog_flash.specs.Printed.{line, change_lines, transaction_lines, sql_text}
use Rattle.blog_flash.specs.code.PrintedRows.{event_lines}

-- parts one after the other, each as it is printed
parts-printed : {A B C : Type 0} (f : B → List C) (g : A → List B) (h : A → List C) → ((x : A) → flat_map f (g x) ≡ h x) → (xs : List A) → flat_map f (flat_map g xs) ≡ flat_map h xs
parts-printed f g h is [] = refl
parts-printed f g h is (x ∷ xs) = flat_map-append f (g x) (flat_map g xs) ∙ ap₂ ◌++◌ (is x) (parts-printed f g h is xs)

rows-printed : (rs : List PlacedRows) → flat_map event_lines (rows_in_turn rs) ≡ flat_map (λ r. flat_map change_lines (changes_of_rows (rows_value r))) rs
rows-printed [] = refl
rows-printed (r ∷ []) = refl
rows-printed (r ∷ s ∷ rs) = ap (λ text. flat_map change_lines (changes_of_rows (rows_value r)) ++ text) (rows-printed (s ∷ rs))

maps-printed : (ms : List Placed) → flat_map event_lines (map Maps ms) ≡ []
maps-printed [] = refl
maps-printed (m ∷ ms) = maps-printed ms

statement-printed : (s : PlacedStatement) → flat_map event_lines (statement_in_turn Forward s) ≡ flat_map change_lines (changes_of_statement (statement_value s))
statement-printed s =
    flat_map-append event_lines (map Maps s.maps) (rows_in_turn s.rows) ∙ ap₂ ◌++◌ (maps-printed s.maps) (rows-printed s.rows)
    ∙ sym (parts-printed change_lines changes_of_rows _ (λ r. refl) (map rows_value s.rows) ∙ flat_map-map (λ r. flat_map change_lines (changes_of_rows r)) rows_value s.rows)

transaction-printed : (t : PlacedTransaction) → flat_map event_lines (transaction_in_turn Forward t) ≡ transaction_lines (transaction_value t)
transaction-printed t =
    let changes : PlacedStatement → List ℕ = λ s. flat_map change_lines (changes_of_statement (statement_value s)) in
    ap (λ text. line (codes "BEGIN") ++ text)
    (flat_map-append event_lines (flat_map (statement_in_turn Forward) t.statements) (Ends t.end ∷ [])
    ∙ ap₂ ◌++◌ (parts-printed event_lines (statement_in_turn Forward) changes statement-printed t.statements
    ∙ sym (parts-printed change_lines changes_of_statement _ (λ s. refl) (map statement_value t.statements) ∙ flat_map-map (λ s. flat_map change_lines (changes_of_statement s)) statement_value t.statements))
    (append-nil (line (codes "COMMIT"))))

pub printed-in-turn : (ts : List PlacedTransaction) → flat_map event_lines (in_turn Forward ts) ≡ sql_text (map transaction_value ts)
unfolding in_turn sql_text
printed-in-turn ts =
    parts-printed event_lines (transaction_in_turn Forward) (λ t. transaction_lines (transaction_value t)) transaction-printed ts ∙ sym (flat_map-map transaction_lines transaction_value ts)

-- of the groups of a log
pub printed-groups : (bytes : List ℕ) (sel : Selection) → flat_map event_lines (in_turn Forward (placed_groups bytes sel)) ≡ sql_text (groups bytes sel)
unfolding groups
printed-groups bytes sel = printed-in-turn (placed_groups bytes sel)
