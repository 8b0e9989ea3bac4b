-- The groups of an index as they are laid out, in either order, and what is written for each event of them.
use Rattle.std.specs.Prelude.{ℕ, List, map, reverse}
use Rattle.std.specs.List.{flat_map}
use Rattle.blog_event.specs.Event.{Event, event_text}
use Rattle.blog_row.specs.declared.order.Order.{Order}
use Rattle.blog_row.specs.declared.order.Order.TheVariants.{Forward, Backward}
use Rattle.blog_row.specs.RowsWriting.{content_in}
use Rattle.blog_trans.specs.Groups.{PlacedTransaction, RowsEvent, Statement, Transaction, event_value, rows_value, transaction_value}
use Rattle.blog_trans.specs.code.InTurn.{GroupEvent, Begins, Maps, Changes, Ends}
use Rattle.blog_flash.specs.Reversal.{reversed_rows, reversed_statement, reversed_transaction}
use Rattle.blog_flash.specs.Texts.{with_log_pos}
use Rattle.blog_flash.specs.Written as written
use Rattle.blog_flash.specs.Written.{Written, event_written}

-- the texts of events that are appended to a file of `pos` bytes
abbrev pub text_from : ℕ → List Event → List ℕ
text_from pos es = flat_map event_text (with_log_pos pos es)

-- ---- in either order

-- backward each element is undone, the last one first
abbrev pub turned : {A : Type 0} → Order → (A → A) → List A → List A
turned Forward undone xs = xs
turned Backward undone xs = reverse (map undone xs)

abbrev pub rows_in : Order → RowsEvent → RowsEvent
rows_in order r = record r { content = content_in order r.content }

abbrev pub statement_in : Order → Statement → Statement
statement_in order s = record { maps = s.maps; rows = turned order reversed_rows s.rows }

abbrev pub transaction_in : Order → Transaction → Transaction
transaction_in order t = record { begin = t.begin; statements = turned order reversed_statement t.statements; end = t.end }

abbrev pub groups_in : Order → List Transaction → List Transaction
groups_in order ts = turned order reversed_transaction ts

-- those that were read
abbrev pub transactions_of : Order → List PlacedTransaction → List Transaction
transactions_of order ts = groups_in order (map transaction_value ts)

-- an event of the groups, as it is written
abbrev pub written_in : Order → GroupEvent → Written
written_in order (Begins event) = written.Same (event_value event)
written_in order (Maps event) = written.Maps (event_value event)
written_in order (Changes rows last) = written.Changes (rows_in order (rows_value rows)) last
written_in order (Ends event) = written.Same (event_value event)

-- the event that is written for it
abbrev pub written_event : Order → GroupEvent → Event
written_event order e = event_written (written_in order e)
