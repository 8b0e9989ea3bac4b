-- The lines of a list, as text.
use Rattle.std.specs.Prelude.{ℕ, ◌+◌, ◌-◌, ◌==◌, ◌&&◌, Bool, true, false, if◌then◌else◌, List, [], ◌∷◌, ◌++◌, length, replicate, take, drop, min, Option, Some, None, Result, Ok, Err, bytes_eq, codes}
use Rattle.std.specs.Option.{option_map_or}
use Rattle.std.specs.Result.{is_err, result_ok}
use Rattle.std.specs.List.{sum_by}
use Rattle.std.specs.Fmt.{decimal}
use Rattle.hex.specs.Hex.{encode_lower}
use Rattle.blog_trans.specs.Changes.{TableCount}
use Rattle.blog_units.specs.Units.{Id}
use Rattle.blog_choice.specs.Choice.{Choice}
use Rattle.blog_list.specs.declared.listing.Sorting.{Sorting}
use Rattle.blog_text.specs.Escapes.{beginning, escaped, marks}
use Rattle.blog_text.specs.Tables.{counts_text}

-- Why a unit can't be undone: the name and the position of a fault; and of the event there the text, where it is a statement, or
-- else what it is, where that is known.
pub record Refusal : Type 0 where
  pub name : List ℕ
  pub pos : Option ℕ
  pub statement : Option (List ℕ)
  pub event : Option (List ℕ)

-- What is shown of a unit: where it starts and stops, its time, its thread and its global transaction id; and its rows by table,
-- or why it can't be undone.
pub record Shown : Type 0 where
  pub start : ℕ
  pub stop : ℕ
  pub time : ℕ
  pub thread : Option ℕ
  pub id : Option Id
  pub changes : Result (List TableCount) Refusal

-- What is listed of a log: its name, where that is shown; what is shown of its units, in the order of the log; how these are sorted, and
-- the choice of tables; and how many statements and how many damaged events were passed over.
pub record LogList : Type 0 where
  pub name : Option (List ℕ)
  pub units : List Shown
  pub sorting : Sorting
  pub choice : Choice
  pub passed_over : ℕ
  pub damaged : ℕ

-- ---- the parts of a line

-- a number in decimal digits, behind blanks up to ten columns
unfoldable pub padded : ℕ → List ℕ
padded n = take (10 - length (decimal n)) (codes "          ") ++ decimal n

-- a thread, or as many blanks
abbrev pub thread_text : Option ℕ → List ℕ
thread_text None = codes "          "
thread_text (Some thread) = padded thread

-- the digits of bytes from a number on, up to another
unfoldable pub digits : ℕ → ℕ → List ℕ → List ℕ
digits from to bytes = encode_lower (take (to - from) (drop from bytes))

-- the same and a hyphen
unfoldable pub hyphened : ℕ → ℕ → List ℕ → List ℕ
hyphened from to bytes = digits from to bytes ++ codes "-"

-- a server's 16 bytes
unfoldable pub server_text : List ℕ → List ℕ
server_text server =
    hyphened 0 4 server ++ (hyphened 4 6 server ++ (hyphened 6 8 server ++ (hyphened 8 10 server ++ digits 10 16 server)))

-- a tag and a colon, where there is one
abbrev pub tag_text : List ℕ → List ℕ
tag_text [] = []
tag_text (byte ∷ tag) = escaped (byte ∷ tag) ++ codes ":"

-- an id of zeros, which says nothing
abbrev pub is_unknown : Id → Bool
is_unknown id = bytes_eq id.server (replicate 16 0) && id.number == 0

-- a global transaction id: `server:number`, with a tag `server:tag:number`
unfoldable pub id_text : Id → List ℕ
id_text id = if is_unknown id then codes "?" else server_text id.server ++ (codes ":" ++ (tag_text id.tag ++ decimal id.number))

-- its column, where it is asked for
abbrev pub id_column : Bool → Option Id → List ℕ
id_column false id = []
id_column true None = []
id_column true (Some id) = id_text id ++ codes "  "

-- a fault, with its position where it has one
unfoldable pub fault_text : List ℕ → Option ℕ → List ℕ
fault_text name pos = name ++ option_map_or (λ pos. codes " at " ++ decimal pos) pos []

-- what explains a fault: a colon and the beginning of a text, in this room, in which two points fit too
abbrev pub explained : ℕ → List ℕ → List ℕ
explained room text = codes ": " ++ beginning (room - 4) 240 (marks text)

-- a fault, and the beginning of the text of a statement, or of what an event is, in this room
abbrev pub refusal_text : ℕ → Refusal → List ℕ
refusal_text room r =
    let fault = fault_text r.name r.pos in
    let left = room - length fault in
    fault ++ (option_map_or (explained left) r.statement [] ++ option_map_or (explained left) r.event [])

abbrev pub changes_text : ℕ → Result (List TableCount) Refusal → List ℕ
changes_text room (Ok counts) = counts_text room counts
changes_text room (Err refusal) = refusal_text room refusal

-- ---- the lines

-- what is in front of the time: where a unit starts and stops
unfoldable pub positions_text : ℕ → ℕ → List ℕ
positions_text start stop = padded start ++ (codes " " ++ (padded stop ++ codes "  "))

-- what is behind it, with this room for what a unit changes
unfoldable pub rest_text : Bool → ℕ → Shown → List ℕ
rest_text gtids room s = codes "  " ++ (thread_text s.thread ++ (codes "  " ++ (id_column gtids s.id ++ (changes_text room s.changes ++ codes "\n"))))

-- how many columns of 119 are left beside the other columns, where that of the times has this width
abbrev pub room_beside : ℕ → ℕ
room_beside width = 63 - (width - 19)

-- a text, and blanks up to this width
abbrev pub in_column : ℕ → List ℕ → List ℕ
in_column width text = text ++ replicate (width - length text) 32

-- the line of a unit, with ids or without, with this text of its time in a column of this width
unfoldable pub unit_line : Bool → ℕ → List ℕ → Shown → List ℕ
unit_line gtids width time s = positions_text s.start s.stop ++ (in_column width time ++ rest_text gtids (room_beside width) s)

-- the line above the units of a log: its name, where that is shown
unfoldable pub name_line : Option (List ℕ) → List ℕ
name_line name = option_map_or (λ name. escaped name ++ codes ":\n") name []

-- the line above all others, with ids or without, with this heading of the times
unfoldable pub header : Bool → List ℕ → List ℕ
header gtids heading =
    codes "     start       stop  " ++ (in_column 19 heading ++ (codes "      thread  " ++ (if gtids then codes "gtid  rows\n" else codes "rows\n")))

-- a number, or the greatest one of 64 bits
abbrev pub at_most : ℕ → ℕ
at_most n = min n 18446744073709551615

abbrev pub rows_of : List TableCount → ℕ
rows_of [] = 0
rows_of (c ∷ cs) = c.inserts + (c.updates + c.deletes) + rows_of cs

abbrev pub rows_shown : Shown → ℕ
rows_shown s = option_map_or rows_of (result_ok s.changes) 0

abbrev pub all_rows : List Shown → ℕ
all_rows [] = 0
all_rows (s ∷ ss) = rows_shown s + all_rows ss

abbrev pub all_refused : List Shown → ℕ
all_refused [] = 0
all_refused (s ∷ ss) = (if is_err s.changes then 1 else 0) + all_refused ss

-- words and a number
unfoldable pub numbered : List ℕ → ℕ → List ℕ
numbered words n = words ++ decimal n

-- how many units logs have, how many of these can't be undone, and how many rows the others change; how many statements and how
-- many damaged events were passed over
abbrev pub sum_units : List LogList → ℕ
sum_units ls = sum_by (λ l. length l.units) ls

abbrev pub sum_refused : List LogList → ℕ
sum_refused ls = sum_by (λ l. all_refused l.units) ls

abbrev pub sum_rows : List LogList → ℕ
sum_rows ls = sum_by (λ l. all_rows l.units) ls

abbrev pub sum_passed_over : List LogList → ℕ
sum_passed_over ls = sum_by (λ l. l.passed_over) ls

abbrev pub sum_damaged : List LogList → ℕ
sum_damaged ls = sum_by (λ l. l.damaged) ls

-- a line of words and a number, left out if that is 0
unfoldable pub line_unless_0 : List ℕ → ℕ → List ℕ
line_unless_0 words n = if n == 0 then [] else numbered words n ++ codes "\n"

-- the last lines: one with the first three of these numbers, and one for each of the others that isn't 0
unfoldable pub totals_lines : List LogList → List ℕ
totals_lines ls =
    numbered (codes "units ") (at_most (sum_units ls)) ++ (numbered (codes ", not undoable ") (at_most (sum_refused ls))
    ++ (numbered (codes ", rows ") (at_most (sum_rows ls)) ++ (codes "\n"
    ++ (line_unless_0 (codes "statements passed over ") (at_most (sum_passed_over ls))
    ++ line_unless_0 (codes "damaged events passed over ") (at_most (sum_damaged ls))))))
