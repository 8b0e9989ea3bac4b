-- The groups that undo groups (MariaDB Knowledge Base, "Flashback").
use Rattle.std.specs.Prelude.{List, map, reverse}
use Rattle.blog_row.specs.RowsWriting.{reversed_content}
use Rattle.blog_trans.specs.Groups.{RowsEvent, Statement, Transaction}

-- the rows of a rows event undone, the last one first
abbrev pub reversed_rows : RowsEvent → RowsEvent
reversed_rows r = record r { content = reversed_content r.content }

-- rows events in reverse order; maps keep theirs
abbrev pub reversed_statement : Statement → Statement
reversed_statement s = record { maps = s.maps; rows = reverse (map reversed_rows s.rows) }

-- statements in reverse order; the first event stays first, the end event last
abbrev pub reversed_transaction : Transaction → Transaction
reversed_transaction t = record { begin = t.begin; statements = reverse (map reversed_statement t.statements); end = t.end }

-- transactions in reverse order
abbrev pub reversed : List Transaction → List Transaction
reversed ts = reverse (map reversed_transaction ts)
