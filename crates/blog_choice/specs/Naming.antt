-- Whether a statement names a chosen table. Where a rule can't tell, it does.
use Rattle.std.specs.Prelude.{◌≡◌, ◌⊎◌, ℕ, ◌==◌, Bool, true, not, ◌&&◌, ◌||◌, if◌then◌else◌, List, [], ◌∷◌, Option, nat_le, bytes_eq, codes}
use Rattle.std.specs.List.{list_any}
use Rattle.std.specs.Option.{option_or, option_map_or}
use Rattle.std.specs.Str.{str_eq_ignore_ascii_case}
use Rattle.blog_choice.specs.Choice.{Name, Choice, is_nil}
use Rattle.blog_choice.specs.Words.{occurs, HasWord, first_word, after_first_word}

-- ---- names in a text

-- a name that a text can spell in other bytes: empty, with a byte from 128 on, or with a backtick or `"`, which is doubled
-- inside of a name in such quotes (MySQL Reference Manual, "Schema Object Names")
unfoldable pub is_special : List ℕ → Bool
is_special name = is_nil name || list_any (λ byte. byte == 34 || (byte == 96 || nat_le 128 byte)) name

-- a character that has two spellings in a character set of clients: one of '(),-. in armscii8, \ in sjis and ujis
abbrev pub is_twin : ℕ → Bool
is_twin byte = byte == 39 || (byte == 40 || (byte == 41 || (byte == 44 || (byte == 45 || (byte == 46 || byte == 92)))))

-- a name with such a character
unfoldable pub has_twins : List ℕ → Bool
has_twins name = list_any is_twin name

-- the text names it; where its client has such a character set, in either spelling
unfoldable pub has_name : Bool → List ℕ → List ℕ → Bool
has_name twins text name = is_special name || ((has_twins name && twins) || occurs name text)

-- the text is about schemas
abbrev pub is_about_schemas : List ℕ → Bool
is_about_schemas text = occurs (codes "DATABASE") text || occurs (codes "SCHEMA") text

-- the text names a table, or its schema where it is about schemas
unfoldable pub names_table : Bool → Option (List ℕ) → List ℕ → Name → Bool
names_table twins database text name =
    has_name twins text name.table || (is_about_schemas text && option_map_or (has_name twins text) (option_or name.schema database) true)

-- ---- statements

-- statements that change no table by a trigger, a view or a cascade
abbrev pub naming_words : List (List ℕ)
naming_words =
    codes "ALTER" ∷ codes "ANALYZE" ∷ codes "CREATE" ∷ codes "DROP" ∷ codes "FLUSH" ∷ codes "GRANT" ∷ codes "OPTIMIZE" ∷ codes "RENAME"
    ∷ codes "REPAIR" ∷ codes "REVOKE" ∷ codes "TRUNCATE" ∷ codes "XA" ∷ []

abbrev pub is_create_table : List ℕ → Bool
is_create_table text = str_eq_ignore_ascii_case (first_word text) (codes "CREATE") && str_eq_ignore_ascii_case (first_word (after_first_word text)) (codes "TABLE")

-- the statement changes only tables that it names; inside of a transaction only CREATE TABLE is known to
unfoldable pub changes_what_it_names : Bool → List ℕ → Bool
changes_what_it_names inside text = if inside then is_create_table text else list_any (str_eq_ignore_ascii_case (first_word text)) naming_words

-- one of the tables is named; where none is given, the database, by the default schema or the text; where neither is, any
abbrev pub names_wanted : Choice → List ℕ → List ℕ → Bool → Bool
names_wanted choice default_schema text twins =
    if is_nil choice.tables then option_map_or (λ name. bytes_eq default_schema name || has_name twins text name) choice.database true
    else list_any (names_table twins choice.database text) choice.tables

-- a statement of this text, with this default schema, names a chosen table
unfoldable pub names_chosen : Choice → List ℕ → List ℕ → Bool → Bool → Bool
names_chosen choice default_schema text inside twins = not (changes_what_it_names inside text) || names_wanted choice default_schema text twins

-- a text that is run in the default schema names a table, or its schema where it is about schemas
abbrev pub IsAbout : List ℕ → List ℕ → List ℕ → List ℕ → Type 0
IsAbout default_schema text schema table =
    (HasWord table text × ((default_schema ≡ schema) ⊎ HasWord schema text)) ⊎ ((is_about_schemas text ≡ true) × HasWord schema text)
