-- Names that are looked for in a text together.
use Rattle.std.proofs.Common.{◌≡◌, ℕ, Bool, true, false, List, Option, Some, None, refl, sym, ap, ◌∙◌}
use Rattle.std.specs.Prelude.{◌&&◌, ◌||◌, is_none}
use Rattle.std.specs.List.{list_any}
use Rattle.std.specs.Option.{option_map_or, option_or}
use Rattle.blog_choice.specs.Choice.{Name}
use Rattle.blog_choice.specs.Naming.{has_name, has_twins, is_about_schemas, is_special, names_table}
use Rattle.blog_choice.specs.Words.{occurs}
use Rattle.blog_choice.specs.code.ChosenNaming.{is_of_any_schema, schemas_of, tables_of}
use Rattle.blog_choice.proofs.Anys.{any-and, any-first, any-given, any-or, any-same}
use Rattle.blog_choice.proofs.Places.{list_any-map}

or-assoc : (a b c : Bool) → (a || (b || c)) ≡ ((a || b) || c)
or-assoc true b c = refl
or-assoc false b c = refl

-- one of them has another spelling, or is in the text
pub any-named : (twins : Bool) (text : List ℕ) (names : List (List ℕ))
    → list_any (has_name twins text) names ≡ ((list_any is_special names || (twins && list_any has_twins names)) || list_any (λ name. occurs name text) names)
unfolding has_name
any-named twins text names =
    any-or is_special (λ name. (has_twins name && twins) || occurs name text) names
    ∙ ap (λ (more : Bool). list_any is_special names || more)
    (any-or (λ name. has_twins name && twins) (λ name. occurs name text) names ∙ ap (λ (first : Bool). first || list_any (λ name. occurs name text) names) (any-and twins has_twins names))
    ∙ or-assoc (list_any is_special names) (twins && list_any has_twins names) (list_any (λ name. occurs name text) names)

by-schema : (test : List ℕ → Bool) (schema : Option (List ℕ)) → option_map_or test schema true ≡ (is_none schema || option_map_or test schema false)
by-schema test None = refl
by-schema test (Some schema) = refl

-- one of the tables is of any schema, or of one that passes a test
pub any-schema : (test : List ℕ → Bool) (database : Option (List ℕ)) (names : List Name)
    → list_any (λ name. option_map_or test (option_or name.schema database) true) names ≡ (list_any (is_of_any_schema database) names || list_any test (schemas_of database names))
any-schema test database names =
    any-same (λ name. option_map_or test (option_or name.schema database) true) (λ name. is_of_any_schema database name || option_map_or test (option_or name.schema database) false)
    (λ name. by-schema test (option_or name.schema database)) names
    ∙ any-or (is_of_any_schema database) (λ name. option_map_or test (option_or name.schema database) false) names
    ∙ ap (λ (more : Bool). list_any (is_of_any_schema database) names || more) (any-given test (λ name. option_or name.schema database) names)

-- one of the tables is named, or its schema where the text is about schemas
pub any-table : (twins : Bool) (database : Option (List ℕ)) (text : List ℕ) (names : List Name)
    → list_any (names_table twins database text) names
    ≡ (list_any (has_name twins text) (tables_of names) || (is_about_schemas text && list_any (λ name. option_map_or (has_name twins text) (option_or name.schema database) true) names))
unfolding names_table
any-table twins database text names =
    let by_schema : Name → Bool = λ name. option_map_or (has_name twins text) (option_or name.schema database) true in
    any-or (λ name. has_name twins text name.table) (λ name. is_about_schemas text && by_schema name) names
    ∙ ap (λ (more : Bool). list_any (λ name. has_name twins text name.table) names || more) (any-first (is_about_schemas text) by_schema names)
    ∙ ap (λ (first : Bool). first || (is_about_schemas text && list_any by_schema names)) (sym (list_any-map (has_name twins text) (λ (name : Name). name.table) names))
