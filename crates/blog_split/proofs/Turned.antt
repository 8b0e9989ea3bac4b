-- Reversed groups are as long as the groups.
use Rattle.std.proofs.Common.{◌≡◌, ℕ, ◌+◌, Bool, true, false, List, [], ◌∷◌, ◌++◌, length, map, reverse, refl, sym, ap, ap₂, ◌∙◌, arith}
use Rattle.std.specs.List.{flat_map}
use Rattle.blog_event.specs.Event.{Event, event_size}
use Rattle.blog_row.specs.declared.order.Order.TheVariants.{Forward, Backward}
use Rattle.blog_row.specs.RowsWriting.{written_body}
use Rattle.blog_row.proofs.WrittenBody.{body-len}
use Rattle.blog_trans.specs.Groups.{RowsEvent, Statement, Transaction}
use Rattle.blog_trans.proofs.ProgressSteps.{reverse-latest}
use Rattle.blog_trans.proofs.Sums.{sum_of, sum-append, sum-joined}
use Rattle.blog_flash.specs.Reversal.{reversed_rows, reversed_statement, reversed_transaction, reversed}
use Rattle.blog_flash.specs.Texts.{rows_event, rows_events, statement_events, transaction_events, group_events}
use Rattle.blog_flash.proofs.Lengths.{total}

-- numbers of elements that are changed without a change of their numbers, in reverse order
pub sum-turned : {A : Type 0} (f : A → ℕ) (g : A → A) → ((x : A) → f (g x) ≡ f x) → (xs : List A) → sum_of f (reverse (map g xs)) ≡ sum_of f xs
sum-turned f g same [] = refl
sum-turned f g same (x ∷ xs) =
    let joined = ap (sum_of f) (reverse-latest (g x) (map g xs)) ∙ sum-append f (reverse (map g xs)) (g x ∷ []) in
    let others = sum-turned f g same xs in
    let own = same x in
    omega arith

-- two lists of them
total-append : (xs ys : List Event) → total (xs ++ ys) ≡ total xs + total ys
total-append xs ys = sum-append event_size xs ys

-- ---- groups

-- how long the event of a rows event is
abbrev pub rows_size : RowsEvent → ℕ
rows_size r = 19 + length (written_body true r.content)

-- the events of a statement
abbrev statement_size : Statement → ℕ
statement_size s = total s.maps + sum_of rows_size s.rows

-- those of a transaction
abbrev transaction_size : Transaction → ℕ
transaction_size t = event_size t.begin + (sum_of statement_size t.statements + event_size t.end)

-- the end flag changes no length
pub rows_event-size : (last : Bool) (r : RowsEvent) → event_size (rows_event last r) ≡ rows_size r
rows_event-size last r = ap (λ (n : ℕ). 19 + n) (body-len Forward last r.content ∙ sym (body-len Forward true r.content))

-- the rows events of a statement
rows_events-total : (rows : List RowsEvent) → total (rows_events rows) ≡ sum_of rows_size rows
rows_events-total [] = refl
rows_events-total (r ∷ []) = ap (λ (n : ℕ). n + 0) (rows_event-size true r)
rows_events-total (r ∷ s ∷ rows) = ap₂ ◌+◌ (rows_event-size false r) (rows_events-total (s ∷ rows))

-- a statement
statement-total : (s : Statement) → total (statement_events s) ≡ statement_size s
statement-total s = total-append s.maps (rows_events s.rows) ∙ ap (λ (n : ℕ). total s.maps + n) (rows_events-total s.rows)

-- a transaction
transaction-total : (t : Transaction) → total (transaction_events t) ≡ transaction_size t
transaction-total t =
    let inside = sum-joined event_size statement_events statement_size statement-total t.statements in
    let joined = total-append (flat_map statement_events t.statements) (t.end ∷ []) in
    omega arith

-- groups
group-total : (ts : List Transaction) → total (group_events ts) ≡ sum_of transaction_size ts
group-total ts = sum-joined event_size transaction_events transaction_size transaction-total ts

-- ---- reversed groups

-- a rows event
rows-turned : (r : RowsEvent) → rows_size (reversed_rows r) ≡ rows_size r
rows-turned r = ap (λ (n : ℕ). 19 + n) (body-len Backward true r.content ∙ sym (body-len Forward true r.content))

-- a statement
statement-turned : (s : Statement) → statement_size (reversed_statement s) ≡ statement_size s
statement-turned s = ap (λ (n : ℕ). total s.maps + n) (sum-turned rows_size reversed_rows rows-turned s.rows)

-- a transaction
transaction-turned : (t : Transaction) → transaction_size (reversed_transaction t) ≡ transaction_size t
transaction-turned t = ap (λ (n : ℕ). event_size t.begin + (n + event_size t.end)) (sum-turned statement_size reversed_statement statement-turned t.statements)

-- reversed groups are as long
pub groups-turned : (ts : List Transaction) → total (group_events (reversed ts)) ≡ total (group_events ts)
groups-turned ts = group-total (reversed ts) ∙ sum-turned transaction_size reversed_transaction transaction-turned ts ∙ sym (group-total ts)
