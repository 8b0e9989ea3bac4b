-- What stays of lists, of rows and of groups, and their changes.
use Rattle.std.proofs.Common.{◌≡◌, ℕ, suc, Bool, true, false, not, ◌||◌, List, [], ◌∷◌, ◌++◌, length, drop, map, replicate, refl, sym, ap, ap₂, ◌∙◌, append-nil, arith}
use Rattle.std.specs.List.{flat_map}
use Rattle.std.proofs.lemmas.Bool.{false≢true}
use Rattle.std.proofs.lemmas.List.{drop_all}
use Rattle.std.proofs.lemmas.List.Concat.{flat_map-append}
use Rattle.blog_event.specs.Event.{Event}
use Rattle.blog_row.specs.declared.kind.RowsAction.{RowsAction}
use Rattle.blog_row.specs.declared.kind.RowsAction.TheVariants.{Write, Update, Delete}
use Rattle.blog_row.specs.Image.{Row}
use Rattle.blog_row.specs.RowsEvent.{rows_by}
use Rattle.blog_row.specs.TableMap.{Table, layout_of}
use Rattle.blog_trans.specs.Changes.{Change, Inserted, Deleted, Updated, changes_by_action, changes_of, changes_of_rows, changes_of_statement, changes_of_transaction, row_by, table_of}
use Rattle.blog_trans.specs.Groups.{RowsEvent, Statement, Transaction}
use Rattle.blog_left_out.specs.LeftOut.{by_marks, event_kept, content_rows, is_empty, kept, row_images, rows_kept, statement_kept, stays, transaction_kept, transactions_kept, with_statements}

-- ---- lists

abbrev pub nothing : (A : Type 0) → List A
nothing A = []

pub drop-none : {A : Type 0} (n : ℕ) → drop n (nothing A) ≡ []
drop-none {A = A} n = drop_all n (nothing A) (omega arith)

pub kept-none : {A : Type 0} (ms : List Bool) → kept ms (nothing A) ≡ []
kept-none [] = refl
kept-none (m ∷ ms) = refl

-- of two lists
pub kept-append : {A : Type 0} (ms : List Bool) (xs ys : List A) → kept ms (xs ++ ys) ≡ kept ms xs ++ kept (drop (length xs) ms) ys
kept-append [] xs ys = ap (λ ms. kept ms ys) (sym (drop-none (length xs)))
kept-append (m ∷ ms) [] ys = refl
kept-append (true ∷ ms) (x ∷ xs) ys = ap (λ zs. x ∷ zs) (kept-append ms xs ys)
kept-append (false ∷ ms) (x ∷ xs) ys = kept-append ms xs ys

-- all of them
pub kept-all : {A : Type 0} (xs : List A) → kept (replicate (length xs) true) xs ≡ xs
kept-all [] = refl
kept-all (x ∷ xs) = ap (λ ys. x ∷ ys) (kept-all xs)

pub none-empty : {A : Type 0} (xs : List A) → is_empty xs ≡ true → xs ≡ []
none-empty [] e = refl
none-empty (x ∷ xs) e = absurd (false≢true e)

-- where the changes of each are those that stay, so are those of all
pub changes-by-marks : {A B : Type 0} (changes_in : A → List Change) (becomes : List Bool → A → List B) (of : B → List Change) → ((ms : List Bool) (x : A) → flat_map of (becomes ms x) ≡ kept ms (changes_in x))
    → (ms : List Bool) (xs : List A) → flat_map of (by_marks changes_in becomes ms xs) ≡ kept ms (flat_map changes_in xs)
changes-by-marks changes_in becomes of is ms [] = sym (kept-none ms)
changes-by-marks changes_in becomes of is ms (x ∷ xs) =
    let behind = drop (length (changes_in x)) ms in
    flat_map-append of (becomes ms x) (by_marks changes_in becomes behind xs)
    ∙ ap₂ ◌++◌ (is ms x) (changes-by-marks changes_in becomes of is behind xs)
    ∙ sym (kept-append ms (changes_in x) (flat_map changes_in xs))

-- ---- rows events

-- as many changes as rows
pub rows-many : (action : RowsAction) (t : Table) (row : List ℕ → Row) (images : List (List ℕ)) → length (changes_by_action action t (map row images)) ≡ length (rows_by action images)
rows-many Write t row [] = refl
rows-many Write t row (image ∷ images) = ap suc (rows-many Write t row images)
rows-many Update t row [] = refl
rows-many Update t row (before ∷ []) = refl
rows-many Update t row (before ∷ after ∷ images) = ap suc (rows-many Update t row images)
rows-many Delete t row [] = refl
rows-many Delete t row (image ∷ images) = ap suc (rows-many Delete t row images)

pub event-many : (r : RowsEvent) → length (changes_of_rows r) ≡ length (content_rows r.content)
event-many r = rows-many r.content.kind.action (table_of r.map) (row_by (layout_of r.map)) r.content.images

action-kept : (action : RowsAction) (t : Table) (row : List ℕ → Row) (ms : List Bool) (images : List (List ℕ))
    → changes_by_action action t (map row (flat_map row_images (kept ms (rows_by action images)))) ≡ kept ms (changes_by_action action t (map row images))
action-kept Write t row [] images = refl
action-kept Write t row (m ∷ ms) [] = refl
action-kept Write t row (true ∷ ms) (image ∷ images) = ap (λ cs. Inserted t (row image) ∷ cs) (action-kept Write t row ms images)
action-kept Write t row (false ∷ ms) (image ∷ images) = action-kept Write t row ms images
action-kept Update t row [] images = refl
action-kept Update t row (m ∷ ms) [] = refl
action-kept Update t row (m ∷ ms) (before ∷ []) = refl
action-kept Update t row (true ∷ ms) (before ∷ after ∷ images) = ap (λ cs. Updated t (row before) (row after) ∷ cs) (action-kept Update t row ms images)
action-kept Update t row (false ∷ ms) (before ∷ after ∷ images) = action-kept Update t row ms images
action-kept Delete t row [] images = refl
action-kept Delete t row (m ∷ ms) [] = refl
action-kept Delete t row (true ∷ ms) (image ∷ images) = ap (λ cs. Deleted t (row image) ∷ cs) (action-kept Delete t row ms images)
action-kept Delete t row (false ∷ ms) (image ∷ images) = action-kept Delete t row ms images

-- the changes of the rows that stay
rows-kept-changes : (ms : List Bool) (r : RowsEvent) → changes_of_rows (rows_kept ms r) ≡ kept ms (changes_of_rows r)
rows-kept-changes ms r = action-kept r.content.kind.action (table_of r.map) (row_by (layout_of r.map)) ms r.content.images

no-changes : (action : RowsAction) (t : Table) → changes_by_action action t [] ≡ []
no-changes Write t = refl
no-changes Update t = refl
no-changes Delete t = refl

-- none stays of an event that doesn't stay
none-stays : (b c : Bool) → (b || not c) ≡ false → c ≡ true
none-stays true c e = absurd (false≢true (sym e))
none-stays false true e = refl
none-stays false false e = absurd (false≢true (sym e))

left-out-changes : (ms : List Bool) (r : RowsEvent) → stays ms r.content ≡ false → [] ≡ kept ms (changes_of_rows r)
left-out-changes ms r out =
    let row = row_by (layout_of r.map) in
    let none = none-empty (kept ms (content_rows r.content)) (none-stays (is_empty (content_rows r.content)) (is_empty (kept ms (content_rows r.content))) out) in
    sym (no-changes r.content.kind.action (table_of r.map))
    ∙ ap (λ rows. changes_by_action r.content.kind.action (table_of r.map) (map row (flat_map row_images rows))) (sym none)
    ∙ rows-kept-changes ms r

-- ---- groups

event-changes : (maps : List Event) (ms : List Bool) (r : RowsEvent) → flat_map changes_of_statement (event_kept maps ms r) ≡ kept ms (changes_of_rows r)
event-changes maps ms r = by_case (stays ms r.content) refl
  where
    by_case : (b : Bool) → stays ms r.content ≡ b → flat_map changes_of_statement (event_kept maps ms r) ≡ kept ms (changes_of_rows r)
    by_case true is = rw is (append-nil (changes_of_rows (rows_kept ms r) ++ []) ∙ append-nil (changes_of_rows (rows_kept ms r)) ∙ rows-kept-changes ms r)
    by_case false is = rw is (left-out-changes ms r is)

statement-changes : (ms : List Bool) (s : Statement) → flat_map changes_of_statement (statement_kept ms s) ≡ kept ms (changes_of_statement s)
statement-changes ms s = changes-by-marks changes_of_rows (event_kept s.maps) changes_of_statement (event-changes s.maps) ms s.rows

with-changes : (t : Transaction) (ss : List Statement) → flat_map changes_of_transaction (with_statements t ss) ≡ flat_map changes_of_statement ss
with-changes t [] = refl
with-changes t (s ∷ ss) = append-nil (flat_map changes_of_statement (s ∷ ss))

transaction-changes : (ms : List Bool) (t : Transaction) → flat_map changes_of_transaction (transaction_kept ms t) ≡ kept ms (changes_of_transaction t)
transaction-changes ms t =
    with-changes t (by_marks changes_of_statement statement_kept ms t.statements)
    ∙ changes-by-marks changes_of_statement statement_kept changes_of_statement statement-changes ms t.statements

-- the changes of the groups that stay are those that stay
pub kept-changes : (ms : List Bool) (ts : List Transaction) → changes_of (transactions_kept ms ts) ≡ kept ms (changes_of ts)
kept-changes = changes-by-marks changes_of_transaction transaction_kept changes_of_transaction transaction-changes
