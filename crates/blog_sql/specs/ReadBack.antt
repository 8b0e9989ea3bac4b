-- A text as a client reads it back: the bytes of each `BINLOG`, and the lines around them.
use Rattle.std.specs.Prelude.{◌≡◌, ℕ, ◌+◌, ◌==◌, Bool, true, if◌then◌else◌, List, [], ◌∷◌, ◌++◌, length, map, drop, codes, bytes_eq, Option, Some, None, Result, Ok}
use Rattle.std.specs.List.{list_all, list_any}
use Rattle.base64.specs.Engines.{standard}
use Rattle.base64.specs.GeneralPurpose.{decode_of}
use Rattle.base64.specs.declared.decode.DecodeError.{DecodeError}
use Rattle.blog_event.specs.Event.{event_size}
use Rattle.blog_event.specs.File.{end_of}
use Rattle.blog_trans.specs.Groups.{Statement, Transaction}
use Rattle.blog_flash.specs.Texts.{statement_events, transaction_events}
use Rattle.blog_flash.specs.code.LaidOut.{text_from}
use Rattle.blog_sql.specs.Changed.{changed_groups}
use Rattle.blog_sql.specs.Sql.{sql_text}
use Rattle.blog_sql.specs.declared.options.SqlOptions.{SqlOptions}

-- ---- lines

-- a byte before the first of these lines
abbrev pub longer : ℕ → List (List ℕ) → List (List ℕ)
longer c [] = (c ∷ []) ∷ []
longer c (l ∷ ls) = (c ∷ l) ∷ ls

-- the lines of a text, without their ends
unfoldable pub lines_of : List ℕ → List (List ℕ)
lines_of [] = []
lines_of (c ∷ text) = if c == 10 then [] ∷ lines_of text else longer c (lines_of text)

-- ---- what they are

-- a line outside of each `BINLOG`, or what is between the quotes of one
pub data Part : Type 0 where
  Outside : (text : List ℕ) → Part
  Quoted : (text : List ℕ) → Part

-- the line `BINLOG '` begins one, and the line `';` ends it. The lines between them are joined. One without an end counts, too
unfoldable pub parts_from : Option (List ℕ) → List (List ℕ) → List Part
parts_from None [] = []
parts_from None (l ∷ ls) = if bytes_eq l (codes "BINLOG '") then parts_from (Some []) ls else Outside l ∷ parts_from None ls
parts_from (Some text) [] = Quoted text ∷ []
parts_from (Some text) (l ∷ ls) = if bytes_eq l (codes "';") then Quoted text ∷ parts_from None ls else parts_from (Some (text ++ l)) ls

abbrev pub quotations : List Part → List (List ℕ)
quotations [] = []
quotations (Outside l ∷ parts) = quotations parts
quotations (Quoted text ∷ parts) = text ∷ quotations parts

abbrev pub around : List Part → List (List ℕ)
around [] = []
around (Outside l ∷ parts) = l ∷ around parts
around (Quoted text ∷ parts) = around parts

-- the bytes that the BINLOGs of a text decode to, in order
unfoldable pub binlogs_of : List ℕ → List (Result (List ℕ) DecodeError)
binlogs_of text = map (decode_of standard) (quotations (parts_from None (lines_of text)))

-- all other lines
unfoldable pub other_lines_of : List ℕ → List (List ℕ)
other_lines_of text = around (parts_from None (lines_of text))

-- ---- what is read back

-- a BINLOG for each statement, whose events follow a log of `pos` bytes
abbrev pub binlogs_of_statements : ℕ → List Statement → List (List ℕ)
binlogs_of_statements pos [] = []
binlogs_of_statements pos (s ∷ ss) = text_from pos (statement_events s) ∷ binlogs_of_statements (end_of pos (statement_events s)) ss

-- for those of groups, where each transaction has its `BEGIN` before them and its end event after them
abbrev pub binlogs_of_groups : ℕ → List Transaction → List (List ℕ)
binlogs_of_groups pos [] = []
binlogs_of_groups pos (t ∷ ts) = binlogs_of_statements (pos + event_size t.begin) t.statements ++ binlogs_of_groups (end_of pos (transaction_events t)) ts

-- lines that have no byte of a log
abbrev pub fixed_lines : List (List ℕ)
fixed_lines =
    codes "-- flashback 0.1.0" ∷ codes "SET @undo_errors = 0;" ∷ codes "/*!50700 SET @@SESSION.GTID_NEXT='AUTOMATIC' */;"
    ∷ codes "SET @undo_end = 'COMMIT';" ∷ codes "BEGIN;" ∷ codes "SET @undo_errors = @undo_errors + @@error_count;"
    ∷ codes "SET @undo_end = IF(@undo_errors = 0, 'COMMIT', 'ROLLBACK');" ∷ codes "PREPARE undo_end FROM @undo_end;" ∷ codes "EXECUTE undo_end;"
    ∷ codes "DEALLOCATE PREPARE undo_end;" ∷ codes "SELECT @undo_end AS ended_with, @undo_errors AS errors;" ∷ []

abbrev pub is_fixed : List ℕ → Bool
is_fixed l = list_any (bytes_eq l) fixed_lines

-- the BINLOGs are the format description, without the magic number, and the statements of the changed groups. All other lines are fixed
pub record IsReadBack (how : SqlOptions) (front : List ℕ) (ts : List Transaction) : Type 0 where
  pub binlogs : binlogs_of (sql_text how front ts) ≡ map Ok (drop 4 front ∷ binlogs_of_groups (length front) (changed_groups how ts))
  pub others : list_all is_fixed (other_lines_of (sql_text how front ts)) ≡ true
