-- What is kept of the events of the range so far. `earlier` has them, the latest first.
use Rattle.std.specs.Prelude.{List, [], ◌∷◌, ◌++◌, if◌then◌else◌, reverse, Option, Some, None, option_map}
use Rattle.std.specs.Option.{option_map_or}
use Rattle.blog_event.specs.File.{Placed}
use Rattle.blog_row.specs.RowsEvent.{has_end_flag}
use Rattle.blog_row.specs.declared.event_kinds.EventKind.{EventKind}
use Rattle.blog_row.specs.declared.event_kinds.EventKind.TheVariants as kind
use Rattle.blog_trans.specs.Selection.{Selection}
use Rattle.blog_trans.specs.Places.{kind_at, since}
use Rattle.blog_trans.specs.Groups.{PlacedRows, PlacedStatement, PlacedTransaction, kept_rows, statement_if, transaction_if}

-- a transaction that is open: its `BEGIN`, its kept statements, and the kept rows events of its open statement
pub record Open : Type 0 where
  pub begin : Placed
  pub statements : List PlacedStatement
  pub rows : List PlacedRows

-- the transactions that are kept, and the open one
pub record Progress : Type 0 where
  pub done : List PlacedTransaction
  pub current : Option Open

abbrev pub appended_if : {A : Type 0} → List A → Option A → List A
appended_if xs None = xs
appended_if xs (Some x) = xs ++ x ∷ []

-- a rows event, if it is kept
abbrev pub with_rows : Option PlacedRows → Open → Open
with_rows r o = record o { rows = appended_if o.rows r }

-- the end of the open statement, whose events these are, in order
abbrev pub closed : List Placed → Open → Open
closed events o = record { begin = o.begin; statements = appended_if o.statements (statement_if events o.rows); rows = [] }

-- the end of the open transaction
abbrev pub ended : Placed → List PlacedTransaction → Open → Progress
ended p done o = record { done = appended_if done (transaction_if (record { begin = o.begin; inside = []; end = p }) o.statements); current = None }

abbrev pub ended_if : Placed → Progress → Progress
ended_if p k = option_map_or (ended p k.done) k.current k

-- a rows event, which ends the statement if it has the end flag
abbrev pub rows_taken : Selection → List Placed → Placed → Open → Open
rows_taken sel earlier p o =
    let taken = with_rows (kept_rows sel (reverse (since earlier)) p) o in
    if has_end_flag p.event.body then closed (reverse (p ∷ since earlier)) taken else taken

abbrev pub advance_by : EventKind → Selection → List Placed → Placed → Progress → Progress
advance_by kind.Begin sel earlier p k = record { done = k.done; current = Some (record { begin = p; statements = []; rows = [] }) }
advance_by kind.Commit sel earlier p k = ended_if p k
advance_by kind.Xid sel earlier p k = ended_if p k
advance_by (kind.Rows rows) sel earlier p k = record { done = k.done; current = option_map (rows_taken sel earlier p) k.current }
advance_by _ sel earlier p k = k

-- one more event
abbrev pub advance : Selection → List Placed → Placed → Progress → Progress
advance sel earlier p k = advance_by (kind_at p) sel earlier p k

abbrev pub progress : Selection → List Placed → Progress
progress sel [] = record { done = []; current = None }
progress sel (p ∷ earlier) = advance sel earlier p (progress sel earlier)
