-- Groups with other timestamps and other schemas.
use Rattle.std.specs.Prelude.{ℕ, ◌+◌, ◌==◌, ◌≤◌, nat_lt, ◌&&◌, not, Bool, List, [], ◌∷◌, ◌++◌, length, map, take, drop, position, if◌then◌else◌, Option, Some, None, bytes_eq}
use Rattle.std.specs.Option.{option_map_or}
use Rattle.std.specs.List.{AllByRecursion, list_any}
use Rattle.blog_event.specs.Event.{Event}
use Rattle.blog_row.specs.TableMap.{Names, name_text, names_of}
use Rattle.blog_trans.specs.Changes.{counts_of}
use Rattle.blog_trans.specs.Groups.{RowsEvent, Statement, Transaction}
use Rattle.blog_flash.specs.Written.{Written, Same, Maps, Changes}
use Rattle.blog_sql.specs.declared.options.Renamed.{Renamed}
use Rattle.blog_sql.specs.declared.options.SqlOptions.{SqlOptions}

-- ---- what is given

-- a schema, and its new name
pub record Schema : Type 0 where
  pub from : List ℕ
  pub to : List ℕ

-- a table map has room for a schema's name of 1 to 255 bytes
abbrev pub is_name : List ℕ → Bool
is_name name = nat_lt 0 (length name) && nat_lt (length name) 256

abbrev pub between_names : List ℕ → List ℕ → Option Schema
between_names from to = if is_name from && is_name to then Some (record { from = from; to = to }) else None

-- a name, a colon, a name; the first colon counts
unfoldable pub read_renamed : List ℕ → Option Schema
read_renamed text = option_map_or (λ at. between_names (take at text) (drop (at + 1) text)) (position (λ byte. byte == 58) text) None

-- another timestamp, if one is given
abbrev pub retimed : Option ℕ → ℕ → ℕ
retimed None timestamp = timestamp
retimed (Some time) timestamp = time

-- the new name of a schema, by the first pair for it; without one its own
abbrev pub renamed_schema : List Renamed → List ℕ → List ℕ
renamed_schema [] name = name
renamed_schema (pair ∷ pairs) name = if bytes_eq pair.from.now name then pair.to.now else renamed_schema pairs name

-- groups have a table of this schema
abbrev pub has_schema : List Transaction → List ℕ → Bool
has_schema ts name = list_any (λ count. bytes_eq count.table.schema name) (counts_of ts)

-- the first pair of whose schema they have none, by its number from 0
abbrev pub without_schema : List Transaction → List Renamed → Option ℕ
without_schema ts pairs = position (λ pair. not (has_schema ts pair.from.now)) pairs

-- a new name is as long as a name can be
abbrev pub HaveShortNames : List Renamed → Type 0
HaveShortNames pairs = AllByRecursion (λ pair. length pair.to.now ≤ 255) pairs

abbrev pub HasShortNames : SqlOptions → Type 0
HasShortNames how = HaveShortNames how.schemas.now

-- ---- table maps

-- the body of a table map: six bytes of id, two of flags, the two names, and what is after them
abbrev pub names_text : Names → List ℕ
names_text n = n.id ++ (n.flags ++ (name_text n.table.schema ++ (name_text n.table.name ++ n.rest)))

-- only the schema's name changes
abbrev pub renamed_names : List Renamed → Names → Names
renamed_names pairs n = record n { table = record { schema = renamed_schema pairs n.table.schema; name = n.table.name } }

abbrev pub renamed_body : List Renamed → List ℕ → List ℕ
renamed_body pairs body = option_map_or (λ names. names_text (renamed_names pairs names)) (names_of body) body

abbrev pub changed_map : SqlOptions → Event → Event
changed_map how m = record m { timestamp = retimed how.time m.timestamp; body = renamed_body how.schemas.now m.body }

-- ---- groups

abbrev pub changed_rows : SqlOptions → RowsEvent → RowsEvent
changed_rows how r = record r { timestamp = retimed how.time r.timestamp }

abbrev pub changed_statement : SqlOptions → Statement → Statement
changed_statement how s = record { maps = map (changed_map how) s.maps; rows = map (changed_rows how) s.rows }

abbrev pub changed_transaction : SqlOptions → Transaction → Transaction
changed_transaction how t = record { begin = t.begin; statements = map (changed_statement how) t.statements; end = t.end }

abbrev pub changed_groups : SqlOptions → List Transaction → List Transaction
changed_groups how ts = map (changed_transaction how) ts

-- one of their events
abbrev pub changed : SqlOptions → Written → Written
changed how (Same e) = Same e
changed how (Maps m) = Maps (changed_map how m)
changed how (Changes r last) = Changes (changed_rows how r) last
