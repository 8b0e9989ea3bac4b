-- Reversing groups twice leaves them as they are, and the changes of reversed groups are the inverse changes.
use Rattle.std.proofs.Common.{◌≡◌, ℕ, ◌%◌, List, [], ◌∷◌, ◌++◌, map, reverse, length, flat_map, refl, sym, ap, ap₂, ◌∙◌, arith, append-nil}
use Rattle.std.specs.List.{AllByRecursion}
use Rattle.std.proofs.lemmas.List.{length-map, length-reverse, map-append, reverse-append, reverse-reverse}
use Rattle.std.proofs.lemmas.Simd.{map-map}
use Rattle.std.proofs.lemmas.List.Concat.{flat_map-append}
use Rattle.blog_row.specs.declared.kind.RowsAction.{RowsAction}
use Rattle.blog_row.specs.declared.kind.RowsAction.TheVariants.{Write, Update, Delete}
use Rattle.blog_row.specs.Image.{Row}
use Rattle.blog_row.specs.RowsKind.{images_a_row, opposite}
use Rattle.blog_row.proofs.ReversedRows.{images-reversed, content-twice}
use Rattle.blog_row.specs.TableMap.{Table, layout_of}
use Rattle.blog_event.specs.Event.{Event}
use Rattle.blog_trans.specs.Changes.{Change, Inserted, Deleted, Updated, table_of, row_by, updates, changes_by_action, changes_of_rows, changes_of_statement, changes_of_transaction, changes_of}
use Rattle.blog_trans.specs.Groups.{RowsEvent, Statement, Transaction}
use Rattle.blog_trans.proofs.ProgressSteps.{reverse-latest}
use Rattle.blog_flash.specs.States.{inverse, inverse_all}
use Rattle.blog_flash.specs.Reversal.{reversed_rows, reversed_statement, reversed_transaction, reversed}
use Rattle.blog_flash.proofs.Formed.{IsRowsEvent, IsStatement, IsTransaction, AreGroups}

-- ---- lists in reverse order

-- map and reverse in either order
pub map-reverse : {A B : Type 0} (f : A → B) (xs : List A) → map f (reverse xs) ≡ reverse (map f xs)
map-reverse f [] = refl
map-reverse f (x ∷ xs) =
    ap (map f) (reverse-latest x xs) ∙ map-append f (reverse xs) (x ∷ []) ∙ ap (λ ys. ys ++ f x ∷ []) (map-reverse f xs) ∙ sym (reverse-latest (f x) (map f xs))

map-twice : {A : Type 0} (g : A → A) → ((x : A) → g (g x) ≡ x) → (xs : List A) → map g (map g xs) ≡ xs
map-twice g twice [] = refl
map-twice g twice (x ∷ xs) = ap₂ ◌∷◌ (twice x) (map-twice g twice xs)

-- reversing with g, where g undoes itself
pub turned-twice : {A : Type 0} (g : A → A) → ((x : A) → g (g x) ≡ x) → (xs : List A) → reverse (map g (reverse (map g xs))) ≡ xs
turned-twice g twice xs = ap reverse (map-reverse g (map g xs)) ∙ reverse-reverse (map g (map g xs)) ∙ map-twice g twice xs

-- of two lists
pub turned-append : {A B : Type 0} (g : A → B) (xs ys : List A) → reverse (map g (xs ++ ys)) ≡ reverse (map g ys) ++ reverse (map g xs)
turned-append g xs ys = ap reverse (map-append g xs ys) ∙ reverse-append (map g xs) (map g ys)

-- ---- groups reversed twice

-- twice reversed, a rows event is itself
pub rows-twice : (r : RowsEvent) → reversed_rows (reversed_rows r) ≡ r
rows-twice r = λ i. record r { content = content-twice r.content i }

-- so is a statement
pub statement-twice : (s : Statement) → reversed_statement (reversed_statement s) ≡ s
statement-twice s = λ i. record { maps = s.maps; rows = turned-twice reversed_rows rows-twice s.rows i }

-- so is a transaction
pub transaction-twice : (t : Transaction) → reversed_transaction (reversed_transaction t) ≡ t
transaction-twice t = λ i. record { begin = t.begin; statements = turned-twice reversed_statement statement-twice t.statements i; end = t.end }

-- so are groups
pub reversed-twice : (ts : List Transaction) → reversed (reversed ts) ≡ ts
reversed-twice = turned-twice reversed_transaction transaction-twice

-- ---- inverse changes

-- the changes of parts that are reversed, in reverse order, where each part's are the inverse
joined_inverse : {X : Type 0} (P : X → Type 0) (f : X → List Change) (g : X → X) → ((x : X) → P x → f (g x) ≡ inverse_all (f x)) → (xs : List X) → AllByRecursion P xs
    → flat_map f (reverse (map g xs)) ≡ inverse_all (flat_map f xs)
joined_inverse P f g each [] all = refl
joined_inverse P f g each (x ∷ xs) all =
    ap (flat_map f) (reverse-latest (g x) (map g xs))
    ∙ flat_map-append f (reverse (map g xs)) (g x ∷ [])
    ∙ ap₂ ◌++◌ (joined_inverse P f g each xs all.1) (append-nil (f (g x)) ∙ each x all.0)
    ∙ sym (turned-append inverse (f x) (flat_map f xs))

-- ---- the changes of reversed groups

updates-push : (t : Table) (rows : List Row) (before after : Row) → length rows % 2 ≡ 0 → updates t (rows ++ before ∷ after ∷ []) ≡ updates t rows ++ Updated t before after ∷ []
updates-push t [] before after even = refl
updates-push t (x ∷ []) before after even = absurd (omega (arith, even))
updates-push t (x ∷ y ∷ rows) before after even = ap (λ cs. Updated t x y ∷ cs) (updates-push t rows before after (omega (arith, even)))

updates-reverse : (t : Table) (rows : List Row) → length rows % 2 ≡ 0 → updates t (reverse rows) ≡ inverse_all (updates t rows)
updates-reverse t [] even = refl
updates-reverse t (x ∷ []) even = absurd (omega (arith, even))
updates-reverse t (x ∷ y ∷ rows) even =
    let others : length rows % 2 ≡ 0 = omega (arith, even) in
    ap (updates t) (reverse-append (x ∷ y ∷ []) rows)
    ∙ updates-push t (reverse rows) y x (ap (λ (n : ℕ). n % 2) (length-reverse rows) ∙ others)
    ∙ ap (λ cs. cs ++ Updated t y x ∷ []) (updates-reverse t rows others)
    ∙ sym (reverse-latest (Updated t y x) (map inverse (updates t rows)))

-- an update has two images a row
action-reverse : (k : RowsAction) (t : Table) (rows : List Row) → length rows % images_a_row k ≡ 0 → changes_by_action (opposite k) t (reverse rows) ≡ inverse_all (changes_by_action k t rows)
action-reverse Write t rows whole = map-reverse (Deleted t) rows ∙ ap reverse (sym (map-map inverse (Inserted t) rows))
action-reverse Update t rows whole = updates-reverse t rows whole
action-reverse Delete t rows whole = map-reverse (Inserted t) rows ∙ ap reverse (sym (map-map inverse (Deleted t) rows))

-- the changes of a reversed rows event
rows-changes : (maps : List Event) (r : RowsEvent) → IsRowsEvent maps r → changes_of_rows (reversed_rows r) ≡ inverse_all (changes_of_rows r)
rows-changes maps r h =
    let action = r.content.kind.action in
    let row = row_by (layout_of r.map) in
    ap (λ (images : List (List ℕ)). changes_by_action (opposite action) (table_of r.map) (map row images)) (images-reversed action r.content.images)
    ∙ ap (changes_by_action (opposite action) (table_of r.map)) (map-reverse row r.content.images)
    ∙ action-reverse action (table_of r.map) (map row r.content.images) (ap (λ (n : ℕ). n % images_a_row action) (length-map r.content.images row) ∙ h.content.2.rows_whole)

-- the changes of a reversed statement
statement-changes : (Known : Event → Type 0) (s : Statement) → IsStatement Known s → changes_of_statement (reversed_statement s) ≡ inverse_all (changes_of_statement s)
statement-changes Known s h = joined_inverse (IsRowsEvent s.maps) changes_of_rows reversed_rows (rows-changes s.maps) s.rows h.rows_formed

-- the changes of a reversed transaction
transaction-changes : (Known : Event → Type 0) (t : Transaction) → IsTransaction Known t → changes_of_transaction (reversed_transaction t) ≡ inverse_all (changes_of_transaction t)
transaction-changes Known t h = joined_inverse (IsStatement Known) changes_of_statement reversed_statement (statement-changes Known) t.statements h.statements_formed

-- the changes of reversed groups are the inverse
pub reversed-changes : (Known : Event → Type 0) (ts : List Transaction) → AreGroups Known ts → changes_of (reversed ts) ≡ inverse_all (changes_of ts)
reversed-changes Known ts h = joined_inverse (IsTransaction Known) changes_of_transaction reversed_transaction (transaction-changes Known) ts h
