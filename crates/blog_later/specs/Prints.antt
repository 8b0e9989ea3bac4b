-- Fingerprints of rows: numbers of 64 bits. Equal rows of a table have equal ones.
use Rattle.std.specs.Prelude.{◌≡◌, ℕ, ◌+◌, ◌*◌, ◌/◌, ◌%◌, Bool, ◌&&◌, if◌then◌else◌, List, [], ◌∷◌, take, Option, None, Some, option_map, nat_eq, nat_lt, codes}
use Rattle.std.specs.Hash.FoldHasher.{initial, write, finish}
use Rattle.std.specs.List.{filter_map, flat_map, list_any}
use Rattle.std.specs.Option.{option_map_or}
use Rattle.std.specs.declared.hash.FoldHasher.{FoldHasher}
use Rattle.blog_row.specs.Image.{Row}
use Rattle.blog_row.specs.TableMap.{Table}
use Rattle.blog_trans.specs.Changes.{Change}
use Rattle.blog_undo.specs.ByRows.{has_print_among}
use Rattle.blog_undo.specs.Mixed.{TableRow, leaves, takes}

-- what is hashed of a NULL
abbrev pub null_text : List ℕ
null_text = codes "this value is NULL, and has no bytes"

-- a value is hashed, and so are those of a row, one after the other
abbrev pub with_value : FoldHasher → Option (List ℕ) → FoldHasher
with_value h value = write h (option_map_or (λ bytes. bytes) value null_text)

abbrev pub with_values : FoldHasher → Row → FoldHasher
with_values h [] = h
with_values h (value ∷ row) = with_values (with_value h value) row

-- before them the names of the table
abbrev pub table_hasher : Table → FoldHasher
table_hasher t = write (write initial t.schema) t.name

abbrev pub print_of : TableRow → ℕ
print_of r = finish (with_values (table_hasher r.table) r.row)

-- the fingerprint of a table: of its names
abbrev pub table_print : Table → ℕ
table_print t = finish (table_hasher t)

-- the fingerprints of rows, and those of their tables
pub record Left : Type 0 where
  pub rows : List ℕ
  pub tables : List ℕ

-- those of the rows that changes leave
abbrev pub prints_left : (TableRow → ℕ) → List Change → List ℕ
prints_left f cs = filter_map (λ c. option_map f (leaves c)) cs

abbrev pub left_of : List Change → Left
left_of cs = record { rows = prints_left print_of cs; tables = prints_left (λ r. table_print r.table) cs }

-- ---- of several lists of changes

-- a fingerprint with the number of a list, below 2^32
abbrev pub print_in : ℕ → TableRow → ℕ
print_in n r = print_of r * 4294967296 + n

-- those that are kept of the first k lists
abbrev pub prints_before : ℕ → List ℕ → List ℕ
prints_before k kept = filter_map (λ e. if nat_lt (e % 4294967296) k then Some (e / 4294967296) else None) kept

-- those of the rows that the first k lists left, and of the tables of all
abbrev pub left_by : ℕ → List (List Change) → Left
left_by k css = record { rows = prints_left print_of (flat_map (λ cs. cs) (take k css)); tables = prints_left (λ r. table_print r.table) (flat_map (λ cs. cs) css) }

-- a change takes a row with one of these fingerprints, of a table with one of these
abbrev pub takes_left : Left → Change → Bool
takes_left left c = has_print_among (λ r. table_print r.table) (takes c) left.tables && has_print_among print_of (takes c) left.rows

-- a fingerprint is kept exactly where it is one of these
abbrev pub HavePrints : List ℕ → List ℕ → Type 0
HavePrints prints kept = (p : ℕ) → list_any (nat_eq p) kept ≡ list_any (nat_eq p) prints

abbrev pub AreKept : Left → Left → Type 0
AreKept left kept = HavePrints left.rows kept.rows × HavePrints left.tables kept.tables
