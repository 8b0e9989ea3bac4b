-- A list as JSON (RFC 8259): texts as strings, the object of a unit, and those of the totals.
use Rattle.std.specs.Prelude.{ℕ, ◌-◌, ◌==◌, ◌&&◌, Bool, nat_le, nat_lt, if◌then◌else◌, List, [], ◌∷◌, ◌++◌, Option, Some, None, false, unwrap_or, Result, Ok, Err, codes}
use Rattle.std.specs.Char.{is_control}
use Rattle.std.specs.List.{flat_map}
use Rattle.std.specs.Str.{is_utf8}
use Rattle.bstr.specs.Utf8.{lossy_chars}
use Rattle.hex.specs.Hex.{encode_upper}
use Rattle.unicode_width.specs.Width.{char_width}
use Rattle.blog_trans.specs.Changes.{TableCount}
use Rattle.blog_units.specs.Units.{Id}
use Rattle.blog_text.specs.JsonStrings.{json_char, json_string}
use Rattle.blog_list.specs.declared.totals.Totals.{Totals}
use Rattle.blog_list.specs.Lines.{LogList, Refusal, Shown, at_most, id_text, numbered, sum_damaged, sum_passed_over, sum_refused, sum_rows, sum_units}

-- ---- parts of strings

-- a name as text, and in hexadecimal digits if it isn't UTF-8, after the names of these members
unfoldable pub json_name : List ℕ → List ℕ → List ℕ → List ℕ
json_name member hex_member name =
    member ++ (json_string name ++ (if is_utf8 name then [] else hex_member ++ (encode_upper name ++ codes "\"")))

-- a control character as a blank, and any other as it is
abbrev pub without_control : ℕ → ℕ
without_control c = if is_control c then 32 else c

-- how many columns of a terminal that takes
abbrev pub json_columns : ℕ → ℕ
json_columns c = unwrap_or (char_width false (without_control c)) 0

-- the beginning of characters in at most this many columns and characters; two points follow where that isn't all
abbrev pub json_beginning : ℕ → ℕ → List ℕ → List ℕ
json_beginning columns characters [] = []
json_beginning columns characters (c ∷ cs) =
    if nat_le (json_columns c) columns && nat_lt 0 characters then json_char (without_control c) ++ json_beginning (columns - json_columns c) (characters - 1) cs else codes ".."

-- ---- the members of a unit

-- the name of its log, where that is shown
abbrev pub json_log : Option (List ℕ) → List ℕ
json_log (Some name) = json_name (codes "\"log\":") (codes ",\"log_hex\":\"") name ++ codes ","
json_log None = []

-- its time, by this text, and in seconds since 1970 in UTC
abbrev pub json_time : List ℕ → ℕ → List ℕ
json_time text seconds = codes ",\"time\":\"" ++ (text ++ numbered (codes "\",\"timestamp\":") seconds)

-- its thread
abbrev pub json_thread : Option ℕ → List ℕ
json_thread (Some thread) = numbered (codes ",\"thread\":") thread
json_thread None = codes ",\"thread\":null"

-- a text as a string, which needs no escape where there is no tag
abbrev pub json_tagged : List ℕ → List ℕ → List ℕ
json_tagged [] text = codes "\"" ++ (text ++ codes "\"")
json_tagged (byte ∷ tag) text = json_string text

-- a global transaction id
abbrev pub json_id : Id → List ℕ
json_id id = json_tagged id.tag (id_text id)

-- its own
abbrev pub json_gtid : Option Id → List ℕ
json_gtid (Some id) = codes ",\"gtid\":" ++ json_id id
json_gtid None = codes ",\"gtid\":null"

-- the rows of a table
unfoldable pub json_count : TableCount → List ℕ
json_count c =
    json_name (codes "{\"schema\":") (codes ",\"schema_hex\":\"") c.table.schema
    ++ (json_name (codes ",\"table\":") (codes ",\"table_hex\":\"") c.table.name
    ++ (numbered (codes ",\"inserts\":") c.inserts
    ++ (numbered (codes ",\"updates\":") c.updates ++ (numbered (codes ",\"deletes\":") c.deletes ++ codes "}"))))

-- those of a further table
abbrev pub json_next : TableCount → List ℕ
json_next c = codes "," ++ json_count c

abbrev pub json_counts : List TableCount → List ℕ
json_counts [] = []
json_counts (c ∷ cs) = json_count c ++ flat_map json_next cs

-- those of all tables
abbrev pub json_tables : List TableCount → List ℕ
json_tables counts = codes ",\"tables\":[" ++ (json_counts counts ++ codes "]")

-- where its fault is, if it has a position
abbrev pub json_position : Option ℕ → List ℕ
json_position (Some pos) = numbered (codes ",\"position\":") pos
json_position None = []

-- the beginning of the text of the statement at fault
abbrev pub json_statement : Option (List ℕ) → List ℕ
json_statement (Some text) = codes ",\"statement\":\"" ++ (json_beginning 1000 4000 (lossy_chars text) ++ codes "\"")
json_statement None = []

-- what another event at fault is
abbrev pub json_event : Option (List ℕ) → List ℕ
json_event (Some words) = codes ",\"event\":" ++ json_string words
json_event None = []

-- why it can't be undone
abbrev pub json_refusal : Refusal → List ℕ
json_refusal r = codes ",\"fault\":" ++ (json_string r.name ++ (json_position r.pos ++ (json_statement r.statement ++ json_event r.event)))

abbrev pub json_changes : Result (List TableCount) Refusal → List ℕ
json_changes (Ok counts) = json_tables counts
json_changes (Err refusal) = json_refusal refusal

-- ---- the lines

-- the object of a unit of a log with this name, with this text of its time
unfoldable pub json_line : Option (List ℕ) → List ℕ → Shown → List ℕ
json_line name time s =
    codes "{" ++ (json_log name ++ (numbered (codes "\"start\":") s.start ++ (numbered (codes ",\"stop\":") s.stop
    ++ (json_time time s.time ++ (json_thread s.thread ++ (json_gtid s.id ++ (json_changes s.changes ++ codes "}\n")))))))

-- the line of the damaged events, where there are any
abbrev pub json_damaged : ℕ → List ℕ
json_damaged n = if n == 0 then [] else numbered (codes "{\"damaged_events\":") n ++ codes "}\n"

-- the last lines
abbrev pub json_totals : Totals → List ℕ
json_totals t =
    numbered (codes "{\"units\":") t.units ++ (numbered (codes ",\"not_undoable\":") t.refused ++ (numbered (codes ",\"rows\":") t.rows
    ++ (numbered (codes ",\"passed_over\":") t.passed_over ++ (codes "}\n" ++ json_damaged t.damaged))))

-- the numbers of what is listed of logs
abbrev pub totals_in : List LogList → Totals
totals_in ls = record {
  units = at_most (sum_units ls);
  refused = at_most (sum_refused ls);
  rows = at_most (sum_rows ls);
  passed_over = at_most (sum_passed_over ls);
  damaged = at_most (sum_damaged ls);
}
