-- Which tables are chosen, by the names that a user gives.
use Rattle.std.specs.Prelude.{ℕ, ◌+◌, ◌==◌, Bool, true, false, not, ◌&&◌, if◌then◌else◌, List, [], ◌∷◌, ◌++◌, take, drop, Option, Some, None, bytes_eq, position}
use Rattle.std.specs.List.{list_any}
use Rattle.std.specs.Option.{option_or, option_map_or}

-- ---- names

-- a table of a schema or, where none is given, of any schema
pub record Name : Type 0 where
  pub schema : Option (List ℕ)
  pub table : List ℕ

-- up to the first point a schema, after it a table; without a point a table of any schema
unfoldable pub read_name : List ℕ → Name
read_name text =
    option_map_or (λ at. record { schema = Some (take at text); table = drop (at + 1) text }) (position (λ byte. byte == 46) text) (record { schema = None; table = text })

-- a name as a user writes it
abbrev pub spelled : Name → List ℕ
spelled name = option_map_or (λ schema. schema ++ 46 ∷ name.table) name.schema name.table

-- the schema has no point or, where none is given, the table
abbrev pub can_be_spelled : Name → Bool
can_be_spelled name = not (list_any (λ byte. byte == 46) (option_map_or (λ schema. schema) name.schema name.table))

-- ---- choices

-- a schema, tables, and tables that are left out
pub record Choice : Type 0 where
  pub database : Option (List ℕ)
  pub tables : List Name
  pub excluded : List Name

abbrev pub is_nil : {A : Type 0} → List A → Bool
is_nil [] = true
is_nil _ = false

-- nothing is asked for
unfoldable pub chooses_all : Choice → Bool
chooses_all choice = option_map_or (λ _. false) choice.database true && is_nil choice.tables && is_nil choice.excluded

-- the schema that is given, or any
abbrev pub is_in : Option (List ℕ) → List ℕ → Bool
is_in given schema = option_map_or (λ name. bytes_eq schema name) given true

-- a name matches a table; one without a schema does so in the database, or in any schema where none is given
abbrev pub matches : Option (List ℕ) → List ℕ → List ℕ → Name → Bool
matches database schema table name = is_in (option_or name.schema database) schema && bytes_eq table name.table

-- one of the tables, or where none is given each of the database; and none that is left out
unfoldable pub chooses : Choice → List ℕ → List ℕ → Bool
chooses choice schema table =
    (if is_nil choice.tables then is_in choice.database schema else list_any (matches choice.database schema table) choice.tables)
    && not (list_any (matches None schema table) choice.excluded)
