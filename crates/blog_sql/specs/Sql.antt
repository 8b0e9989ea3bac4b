-- The SQL that makes the changes of groups, all or none.
use Rattle.std.specs.Prelude.{ℕ, zero, suc, ◌+◌, ◌<◌, ◌==◌, Bool, if◌then◌else◌, List, [], ◌∷◌, ◌++◌, length, drop, codes}
use Rattle.std.specs.List.{AllByRecursion}
use Rattle.base64.specs.Engines.{standard}
use Rattle.base64.specs.GeneralPurpose.{encode_of}
use Rattle.blog_event.specs.Event.{event_size}
use Rattle.blog_event.specs.File.{end_of}
use Rattle.blog_trans.specs.Groups.{Statement, Transaction}
use Rattle.blog_flash.specs.Printed.{line}
use Rattle.blog_flash.specs.Texts.{statement_events, transaction_events}
use Rattle.blog_flash.specs.code.LaidOut.{text_from}
use Rattle.blog_sql.specs.Changed.{changed_groups}
use Rattle.blog_sql.specs.declared.options.SqlOptions.{SqlOptions}

-- ---- base64 (RFC 4648, section 4) in lines

-- a text in lines of 76 characters, each of them ended; its first line takes so many more
unfoldable pub in_lines : ℕ → List ℕ → List ℕ
in_lines room [] = if room == 76 then [] else 10 ∷ []
in_lines zero (c ∷ text) = 10 ∷ (c ∷ in_lines 75 text)
in_lines (suc room) (c ∷ text) = c ∷ in_lines room text

unfoldable pub base64_lines : List ℕ → List ℕ
base64_lines bytes = in_lines 76 (encode_of standard bytes)

-- events for the server to apply (MySQL Reference Manual, "BINLOG Statement")
abbrev pub binlog : List ℕ → List ℕ
binlog bytes = line (codes "BINLOG '") ++ (base64_lines bytes ++ line (codes "';"))

-- ---- the lines around them

-- the errors of the statement before are counted
abbrev pub count_errors : List ℕ
count_errors = line (codes "SET @undo_errors = @undo_errors + @@error_count;")

abbrev pub begin_lines : List ℕ
begin_lines = line (codes "BEGIN;")

-- a transaction is committed if no statement so far had an error
abbrev pub end_lines : List ℕ
end_lines =
    line (codes "SET @undo_end = IF(@undo_errors = 0, 'COMMIT', 'ROLLBACK');") ++ (line (codes "PREPARE undo_end FROM @undo_end;")
    ++ (line (codes "EXECUTE undo_end;") ++ line (codes "DEALLOCATE PREPARE undo_end;")))

-- ---- groups

-- a statement, whose events follow a log of `pos` bytes
abbrev pub statement_sql : ℕ → Statement → List ℕ
statement_sql pos s = binlog (text_from pos (statement_events s)) ++ count_errors

abbrev pub statements_sql : ℕ → List Statement → List ℕ
statements_sql pos [] = []
statements_sql pos (s ∷ ss) = statement_sql pos s ++ statements_sql (end_of pos (statement_events s)) ss

-- a transaction, with its own begin and end if each has them; its `BEGIN` and its end event count as bytes of the log
abbrev pub transaction_sql : Bool → ℕ → Transaction → List ℕ
transaction_sql each pos t =
    (if each then begin_lines else []) ++ (statements_sql (pos + event_size t.begin) t.statements ++ (if each then end_lines else []))

abbrev pub transactions_sql : Bool → ℕ → List Transaction → List ℕ
transactions_sql each pos [] = []
transactions_sql each pos (t ∷ ts) = transaction_sql each pos t ++ transactions_sql each (end_of pos (transaction_events t)) ts

-- ---- the whole

-- before the groups: the format description, which is the front without the magic number. If each transaction ends by itself
-- and there is none, nothing failed
unfoldable pub head_sql : Bool → List ℕ → List ℕ
head_sql each front =
    line (codes "-- flashback 0.1.0") ++ (line (codes "SET @undo_errors = 0;") ++ (binlog (drop 4 front)
    ++ (line (codes "/*!50700 SET @@SESSION.GTID_NEXT='AUTOMATIC' */;") ++ (if each then line (codes "SET @undo_end = 'COMMIT';") else begin_lines))))

-- after them
unfoldable pub tail_sql : Bool → List ℕ
tail_sql each = (if each then [] else end_lines) ++ line (codes "SELECT @undo_end AS ended_with, @undo_errors AS errors;")

-- the groups of a log with this front
unfoldable pub sql_text : SqlOptions → List ℕ → List Transaction → List ℕ
sql_text how front ts =
    let each = how.each_transaction in
    head_sql each front ++ (transactions_sql each (length front) (changed_groups how ts) ++ tail_sql each)

-- each statement of the groups has a rows event
abbrev pub HasRows : Statement → Type 0
HasRows s = 0 < length s.rows

abbrev pub HaveRows : List Transaction → Type 0
HaveRows ts = AllByRecursion (λ t. AllByRecursion HasRows t.statements) ts
