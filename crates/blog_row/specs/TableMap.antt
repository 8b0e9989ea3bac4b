-- The body of a table map (MySQL Internals manual, "Table_map_event").
use Rattle.std.specs.Prelude.{◌≡◌, ◌<◌, ◌≤◌, ℕ, ◌==◌, nat_le, ◌&&◌, if◌then◌else◌, Bool, true, List, [], ◌∷◌, ◌++◌, length, slice_index, Option, Some, None, is_some, Result, Ok, Err, option_and_then, option_map, bytes_eq}
use Rattle.std.specs.List.{list_all}
use Rattle.blog_row.specs.declared.fault.RowFault.{RowFault}
use Rattle.blog_row.specs.declared.fault.RowFault.TheVariants.{BadBody, UnknownType}
use Rattle.blog_row.specs.declared.names.Names as front
use Rattle.blog_row.specs.declared.table_map.TableMap as told
use Rattle.blog_row.specs.Checks.{◌>>=◌, check, or_bad, cut}
use Rattle.blog_row.specs.Packed.{IsPacked, packed_front}
use Rattle.blog_row.specs.Column.{Layout, is_column, types_of, metadata_of, metadata_len_of, metadata_total, columns_of}
use Rattle.blog_row.specs.Image.{bitmap_len}

-- ---- what a body is

-- a table, by the bytes of its two names
pub record Table : Type 0 where
  pub schema : List ℕ
  pub name : List ℕ

-- the fields up to the names, and the bytes behind them
pub record Names : Type 0 where
  pub id : List ℕ
  pub flags : List ℕ
  pub table : Table
  pub rest : List ℕ

-- a name of at most 255 bytes: its length in one byte, its bytes, and a zero byte
abbrev pub name_text : List ℕ → List ℕ
name_text name = length name ∷ (name ++ 0 ∷ [])

-- six bytes of id, two of flags, and the two names
pub record HasNames (body : List ℕ) (names : Names) : Type 0 where
  pub id_len : length names.id ≡ 6
  pub flags_len : length names.flags ≡ 2
  pub text : body ≡ names.id ++ (names.flags ++ (name_text names.table.schema ++ (name_text names.table.name ++ names.rest)))

-- what a layout is made of: 1 to 4,096 columns of the profile
pub record IsLayout (layout : Layout) : Type 0 where
  pub some : 0 < length layout
  pub few : length layout ≤ 4096
  pub known : list_all is_column layout ≡ true

-- the fields behind the names: the packed column count, the types, the packed length of the metadata, the metadata,
-- a nullable bit for each column; the rest is optional metadata, which is not read
pub record LayoutFields : Type 0 where
  pub count : List ℕ
  pub layout : Layout
  pub size : List ℕ
  pub nullable : List ℕ
  pub rest : List ℕ

pub record HasLayout (bytes : List ℕ) (fields : LayoutFields) : Type 0 where
  pub columns : IsLayout fields.layout
  pub counted : IsPacked fields.count (length fields.layout)
  pub sized : IsPacked fields.size (length (metadata_of fields.layout))
  pub nullable_len : length fields.nullable ≡ bitmap_len (length fields.layout)
  pub text : bytes ≡ fields.count ++ (types_of fields.layout ++ (fields.size ++ (metadata_of fields.layout ++ (fields.nullable ++ fields.rest))))

-- ---- reading it

-- a name at the front, and the bytes behind it
unfoldable pub name_front : List ℕ → Option (List ℕ × List ℕ)
name_front [] = None
name_front (n ∷ bytes) =
    option_and_then (λ name. option_and_then (λ end. if slice_index end.0 0 == 0 then Some (name.0, end.1) else None) (cut 1 name.1)) (cut n bytes)

-- the names, where the body has them
unfoldable pub names_of : List ℕ → Option Names
names_of body =
    option_and_then (λ id. option_and_then (λ flags. option_and_then (λ schema. option_map (λ name.
    record { id = id.0; flags = flags.0; table = record { schema = schema.0; name = name.0 }; rest = name.1 })
    (name_front schema.1)) (name_front flags.1)) (cut 2 id.1)) (cut 6 body)

-- the fields behind the names, or the first check that fails
unfoldable pub layout_fields : List ℕ → Result LayoutFields RowFault
layout_fields bytes = do
  (n, count, rest) ← or_bad (packed_front bytes)
  check (nat_le 1 n && nat_le n 4096) BadBody (do
    (types, rest) ← or_bad (cut n rest)
    check (list_all (λ kind. is_some (metadata_len_of kind)) types) UnknownType (do
      (m, size, rest) ← or_bad (packed_front rest)
      check (m == metadata_total types) BadBody (do
        (metadata, rest) ← or_bad (cut m rest)
        check (list_all is_column (columns_of types metadata)) BadBody (do
          (nullable, rest) ← or_bad (cut (bitmap_len n) rest)
          Ok (record { count = count; layout = columns_of types metadata; size = size; nullable = nullable; rest = rest })))))

-- the layout of a table map's body, or the first check that fails, names before layout
unfoldable pub layout_of : List ℕ → Result Layout RowFault
layout_of body = do
  names ← or_bad (names_of body)
  fields ← layout_fields names.rest
  Ok fields.layout

-- equal column count, type bytes and metadata bytes
abbrev pub is_same_layout : Layout → Layout → Bool
is_same_layout a b = bytes_eq (types_of a) (types_of b) && bytes_eq (metadata_of a) (metadata_of b)

-- ---- what a contract sees of the program's

-- the fields up to the names, without where they lie
abbrev pub names_seen : front.Names → Names
names_seen names = record { id = names.id.now; flags = names.flags.now; table = record { schema = names.schema.now; name = names.table.now }; rest = names.rest.now }

-- the fields up to the names, and the bytes behind them
abbrev pub map_names : told.TableMap → Names
map_names map = names_seen map.names

-- the names that were read, or why the body is refused
abbrev pub map_seen : Result told.TableMap RowFault → Result Names RowFault
map_seen (Ok map) = Ok (map_names map)
map_seen (Err fault) = Err fault
