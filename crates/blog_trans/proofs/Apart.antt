-- What the progress keeps lies apart in the events that it is taken of: whatever number each event has, the sum over what
-- is kept is no larger than that over the events.
use Rattle.std.proofs.Common.{◌≡◌, ℕ, ◌+◌, ◌≤◌, List, [], ◌∷◌, map, filter, not, bytes_eq, Option, Some, None, ap, arith}
use Rattle.std.specs.List.{filter_map}
use Rattle.blog_event.specs.File.{Placed}
use Rattle.blog_row.specs.RowsEvent.{table_id}
use Rattle.blog_trans.specs.Selection.{Selection}
use Rattle.blog_trans.specs.Groups.{PlacedRows, PlacedStatement, PlacedTransaction, kept_rows, first_maps, statement_if, transaction_if}
use Rattle.blog_trans.specs.code.Progress.{Open, appended_if}
use Rattle.blog_trans.specs.Shown.{statement_shown, transaction_shown}
use Rattle.blog_trans.proofs.Sums.{sum_of, sum-append, sum-map, sum-joined}
use Rattle.blog_trans.proofs.KeptRows.{kept-facts}

-- ---- a statement

-- the number of a rows event's own event
abbrev rows_sum : (Placed → ℕ) → List PlacedRows → ℕ
rows_sum w rows = sum_of (λ (r : PlacedRows). w r.event) rows

-- maps and rows events are taken of different events
once-total : (w : Placed → ℕ) (sel : Selection) (s es : List Placed) (ids : List (List ℕ))
    → sum_of w (first_maps ids es) + rows_sum w (filter_map (kept_rows sel s) es) ≤ sum_of w es
once-total w sel s [] ids = omega arith
once-total w sel s (p ∷ es) ids =
    grind (arith, once-total w sel s es (filter (λ id. not (bytes_eq (table_id p.event.body) id)) ids), once-total w sel s es ids, kept-facts)

-- the sum over a statement, and over a transaction
abbrev pub statement_sum : (Placed → ℕ) → PlacedStatement → ℕ
statement_sum w s = sum_of w (statement_shown s)

abbrev pub transaction_sum : (Placed → ℕ) → PlacedTransaction → ℕ
transaction_sum w t = sum_of w (transaction_shown t)

-- a statement that is kept of events adds at most the sum over these
pub statement-fits : (w : Placed → ℕ) (sel : Selection) (events : List Placed) (rows : List PlacedRows) (ss : List PlacedStatement) → rows ≡ filter_map (kept_rows sel events) events
    → sum_of (statement_sum w) (appended_if ss (statement_if events rows)) ≤ sum_of (statement_sum w) ss + sum_of w events
statement-fits w sel events [] ss same = omega arith
statement-fits w sel events (r ∷ rows) ss same =
    grind (arith, once-total w sel events events (map (λ (x : PlacedRows). table_id x.event.event.body) (r ∷ rows)), sum-append, sum-map, ap (rows_sum w) same)

-- ---- a transaction

-- the sum over an open transaction, whose open statement has these events
abbrev pub open_sum : (Placed → ℕ) → List Placed → Option Open → ℕ
open_sum w statement None = 0
open_sum w statement (Some o) = w o.begin + (sum_of (statement_sum w) o.statements + sum_of w statement)

-- its end adds at most its own number
pub transaction-fits : (w : Placed → ℕ) (begin end : Placed) (ss : List PlacedStatement) (done : List PlacedTransaction)
    → sum_of (transaction_sum w) (appended_if done (transaction_if (record { begin = begin; inside = []; end = end }) ss)) ≤ sum_of (transaction_sum w) done + (w begin + (sum_of (statement_sum w) ss + w end))
transaction-fits w begin end ss done = grind (arith, sum-append, sum-joined)
