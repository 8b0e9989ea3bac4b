-- A statement about a chosen table names it.
use Rattle.std.proofs.Common.{◌≡◌, ℕ, Bool, true, cond, List, [], ◌∷◌, Option, Some, None, refl, sym, ap, ◌∙◌, inl, inr}
use Rattle.std.specs.Prelude.{not, ◌&&◌, ◌||◌, bytes_eq}
use Rattle.std.specs.List.{list_any}
use Rattle.std.specs.Option.{option_or, option_map_or}
use Rattle.std.proofs.lemmas.Bool.{and_parts, or_cases, or_left, or_right, and_from, cases_Bool}
use Rattle.std.proofs.lemmas.Slice.Eq.{bytes_eq-Decides}
use Rattle.blog_choice.specs.Choice.{Name, Choice, is_nil, is_in, matches, chooses}
use Rattle.blog_choice.specs.Words.{occurs, HasWord}
use Rattle.blog_choice.specs.Naming.{is_special, has_twins, has_name, is_about_schemas, names_table, changes_what_it_names, names_wanted, names_chosen, IsAbout}
use Rattle.blog_choice.proofs.Found.{word-again}

-- a text with the word has the name, be it special or not
has-name : (twins : Bool) (text name : List ℕ) → HasWord name text → has_name twins text name ≡ true
unfolding has_name is_special
has-name twins text name has = elim (cases_Bool (is_nil name)) [
  | inl empty ↦ or_left _ _ (or_left (is_nil name) _ empty)
  | inr given ↦ or_right (is_special name) _ (or_right (has_twins name && twins) (occurs name text) (word-again name text given has))
]

-- the schema that is given is in the text
has-given : (twins : Bool) (given : Option (List ℕ)) (text schema : List ℕ) → is_in given schema ≡ true → HasWord schema text → option_map_or (has_name twins text) given true ≡ true
has-given twins None text schema is has = refl
has-given twins (Some name) text schema is has = ap (has_name twins text) (sym ((bytes_eq-Decides schema name).0 is)) ∙ has-name twins text schema has

-- ---- the tables

-- what matches the table is named
named-table : (twins : Bool) (database : Option (List ℕ)) (default_schema text schema table : List ℕ) (name : Name) → IsAbout default_schema text schema table
    → matches database schema table name ≡ true → names_table twins database text name ≡ true
unfolding names_table
named-table twins database default_schema text schema table name about is =
    let given = option_or name.schema database in
    let parts = and_parts (is_in given schema) (bytes_eq table name.table) is in
    let same : table ≡ name.table = (bytes_eq-Decides table name.table).0 parts.1 in
    elim about [
      | inl by_table ↦ or_left (has_name twins text name.table) _ (ap (has_name twins text) (sym same) ∙ has-name twins text table by_table.0)
      | inr by_schema ↦ or_right (has_name twins text name.table) _ (and_from (is_about_schemas text) _ by_schema.0 (has-given twins given text schema parts.0 by_schema.1))
    ]

-- a test that follows from another
any-follows : (test other : Name → Bool) → ((name : Name) → test name ≡ true → other name ≡ true) → (names : List Name) → list_any test names ≡ true → list_any other names ≡ true
any-follows test other follows [] h = h
any-follows test other follows (name ∷ names) h = elim (or_cases (test name) (list_any test names) h) [
  | inl here ↦ or_left (other name) _ (follows name here)
  | inr later ↦ or_right (other name) _ (any-follows test other follows names later)
]

-- ---- the database

named-database : (twins : Bool) (database : Option (List ℕ)) (default_schema text schema table : List ℕ) → IsAbout default_schema text schema table → is_in database schema ≡ true
    → option_map_or (λ name. bytes_eq default_schema name || has_name twins text name) database true ≡ true
named-database twins None default_schema text schema table about is = refl
named-database twins (Some name) default_schema text schema table about is =
    let same : schema ≡ name = (bytes_eq-Decides schema name).0 is in
    let by_word : HasWord schema text → (bytes_eq default_schema name || has_name twins text name) ≡ true =
    λ has. or_right (bytes_eq default_schema name) _ (ap (has_name twins text) (sym same) ∙ has-name twins text schema has) in
    elim about [
      | inl by_table ↦ elim by_table.1 [
        | inl default ↦ or_left (bytes_eq default_schema name) _ ((bytes_eq-Decides default_schema name).1 (default ∙ same))
        | inr has ↦ by_word has
      ]
      | inr by_schema ↦ by_word by_schema.1
    ]

-- ---- a choice

-- by cases of its tables
named-wanted : (twins : Bool) (database : Option (List ℕ)) (tables excluded : List Name) (default_schema text schema table : List ℕ) → IsAbout default_schema text schema table
    → cond (is_nil tables) (is_in database schema) (list_any (matches database schema table) tables) ≡ true
    → names_wanted (record { database = database; tables = tables; excluded = excluded }) default_schema text twins ≡ true
named-wanted twins database [] excluded default_schema text schema table about is = named-database twins database default_schema text schema table about is
named-wanted twins database (name ∷ names) excluded default_schema text schema table about is =
    any-follows (matches database schema table) (names_table twins database text) (λ other. named-table twins database default_schema text schema table other about) (name ∷ names) is

pub named-chosen : (choice : Choice) (default_schema text schema table : List ℕ) (inside twins : Bool)
    → chooses choice schema table ≡ true → IsAbout default_schema text schema table → names_chosen choice default_schema text inside twins ≡ true
unfolding chooses names_chosen
named-chosen choice default_schema text schema table inside twins is about =
    or_right (not (changes_what_it_names inside text)) _
    (named-wanted twins choice.database choice.tables choice.excluded default_schema text schema table about (and_parts _ _ is).0)
