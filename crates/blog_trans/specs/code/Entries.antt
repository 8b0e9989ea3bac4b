-- The flat list of what is kept: an entry for each event of the groups, in the order in which the log in normal form has
-- them; and the two lists that lead through it: where each transaction begins in it, and where each statement does.
use Rattle.std.specs.Prelude.{◌≡◌, ℕ, ◌+◌, List, [], ◌∷◌, ◌++◌, map, length, take, slice_get, None}
use Rattle.std.specs.Option.{option_map_or}
use Rattle.std.specs.List.{flat_map}
use Rattle.blog_event.specs.File.{Placed}
use Rattle.blog_trans.specs.declared.lists.Entry.{Entry}
use Rattle.blog_trans.specs.declared.lists.StatementStart.{StatementStart}
use Rattle.blog_trans.specs.declared.lists.TransactionStart.{TransactionStart}
use Rattle.blog_trans.specs.declared.checker.MapSeen.{MapSeen}
use Rattle.blog_trans.specs.Groups.{PlacedRows, PlacedStatement, PlacedTransaction}
use Rattle.blog_trans.specs.code.Progress.{Open, Progress}

-- ---- entries

-- of an event, by where it begins, and of a rows event where its map begins
abbrev pub entry_at : ℕ → ℕ → Entry
entry_at at map = record { at = at; map = map }

abbrev pub event_entry : Placed → Entry
event_entry p = entry_at p.pos 0

abbrev pub rows_entry : PlacedRows → Entry
rows_entry r = entry_at r.event.pos r.map.pos

abbrev pub statement_entries : PlacedStatement → List Entry
statement_entries s = map event_entry s.maps ++ map rows_entry s.rows

abbrev pub transaction_entries : PlacedTransaction → List Entry
transaction_entries t = event_entry t.begin ∷ (flat_map statement_entries t.statements ++ event_entry t.end ∷ [])

abbrev pub entries_of : List PlacedTransaction → List Entry
entries_of ts = flat_map transaction_entries ts

-- of maps as the program holds them
abbrev pub map_entries : List MapSeen → List Entry
map_entries maps = map (λ m. entry_at m.at 0) maps

-- ---- beginnings

-- of a transaction: its first entry, and the number of its first statement
abbrev pub transaction_start : ℕ → ℕ → TransactionStart
transaction_start entry statement = record { entry = entry; statement = statement }

-- of a statement: its first entry, and how many maps it has
abbrev pub statement_start : ℕ → ℕ → StatementStart
statement_start entry maps = record { entry = entry; maps = maps }

-- of transactions from an entry and a statement on
abbrev pub transaction_starts : ℕ → ℕ → List PlacedTransaction → List TransactionStart
transaction_starts n s [] = []
transaction_starts n s (t ∷ ts) = transaction_start n s ∷ transaction_starts (n + length (transaction_entries t)) (s + length t.statements) ts

-- of the statements of a transaction, from an entry on
abbrev pub starts_in : ℕ → List PlacedStatement → List StatementStart
starts_in n [] = []
starts_in n (s ∷ ss) = statement_start n (length s.maps) ∷ starts_in (n + length (statement_entries s)) ss

-- of all statements
abbrev pub statement_starts : ℕ → List PlacedTransaction → List StatementStart
statement_starts n [] = []
statement_starts n (t ∷ ts) = starts_in (n + 1) t.statements ++ statement_starts (n + length (transaction_entries t)) ts

-- how many statements there are
abbrev pub statements_in : List PlacedTransaction → ℕ
statements_in ts = length (flat_map (λ t. t.statements) ts)

-- ---- what the lists show

-- the entries of the open transaction
abbrev pub open_entries : Open → List Entry
open_entries o = event_entry o.begin ∷ (flat_map statement_entries o.statements ++ map rows_entry o.rows)

pub record Shows (entries : List Entry) (transactions : List TransactionStart) (statements : List StatementStart) (k : Progress) : Type 0 where
  pub entries_are : entries ≡ entries_of k.done ++ option_map_or open_entries k.current []
  pub transactions_are : transactions ≡ transaction_starts 0 0 k.done
  pub statements_are : statements ≡ statement_starts 0 k.done ++ option_map_or (λ o. starts_in (length (entries_of k.done) + 1) o.statements) k.current []

-- the groups, all done
abbrev pub ShowsGroups : List Entry → List TransactionStart → List StatementStart → List PlacedTransaction → Type 0
ShowsGroups entries transactions statements ts = Shows entries transactions statements (record { done = ts; current = None })

-- ---- by number, from 0

-- the entry at which a transaction begins
abbrev pub transaction_place : List PlacedTransaction → ℕ → ℕ
transaction_place ts t = length (entries_of (take t ts))

-- the statements of a transaction, none where there is no such one
abbrev pub statements_at : List PlacedTransaction → ℕ → List PlacedStatement
statements_at ts t = option_map_or (λ x. x.statements) (slice_get ts t) []

-- the entry at which a statement of a transaction begins
abbrev pub statement_place : List PlacedTransaction → ℕ → ℕ → ℕ
statement_place ts t s = transaction_place ts t + 1 + length (flat_map statement_entries (take s (statements_at ts t)))
