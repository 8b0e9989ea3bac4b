-- The names of chosen tables, and of their schemas.
use Rattle.std.specs.Prelude.{ℕ, Bool, List, map, filter_map, Option, is_none}
use Rattle.std.specs.Option.{option_or}
use Rattle.blog_choice.specs.Choice.{Name}

abbrev pub tables_of : List Name → List (List ℕ)
tables_of names = map (λ name. name.table) names

-- of those of a schema; of the database where a name has none
abbrev pub schemas_of : Option (List ℕ) → List Name → List (List ℕ)
schemas_of database names = filter_map (λ name. option_or name.schema database) names

abbrev pub is_of_any_schema : Option (List ℕ) → Name → Bool
is_of_any_schema database name = is_none (option_or name.schema database)
