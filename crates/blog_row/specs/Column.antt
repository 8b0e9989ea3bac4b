-- How the value of a column is spelled, by its type and its metadata in the table map
-- (MySQL Internals manual, "Table_map_event", and MySQL's sources, field.cc, on the metadata of each type).
use Rattle.std.specs.Prelude.{◌≡◌, ◌+◌, ◌*◌, ◌/◌, ◌%◌, ◌-◌, ℕ, ◌==◌, nat_le, Bool, if◌then◌else◌, List, [], ◌∷◌, ◌++◌, length, Option, Some, None, option_map, option_and_then, bit_and, bit_xor, slice_index, is_some, take, drop, unwrap_or}
use Rattle.std.specs.List.{list_any, flat_map}
use Rattle.byteorder.specs.Endian.{little_number}
use Rattle.blog_row.specs.Checks.{cut}

-- a column of a table map: its type byte, and its bytes of metadata
pub record Column : Type 0 where
  pub kind : ℕ
  pub metadata : List ℕ

-- the columns of a table, in order
abbrev pub Layout : Type 0
Layout = List Column

-- how a value is stored: in so many bytes, or behind a length of so many bytes
pub data Storage : Type 0 where
  Fixed : (width : ℕ) → Storage
  Counted : (prefix : ℕ) → Storage

-- the number stands in the list
abbrev pub is_one_of : List ℕ → ℕ → Bool
is_one_of numbers n = list_any (λ m. n == m) numbers

-- ---- types and metadata

-- how the values of a type are stored, by its metadata: by no byte of it, by one byte, or by two; None where the
-- metadata has a value that is not allowed
pub data Rule : Type 0 where
  Plain : (storage : Storage) → Rule
  ByByte : (storage : ℕ → Option Storage) → Rule
  ByPair : (storage : ℕ → ℕ → Option Storage) → Rule

-- a storage, where the metadata has an allowed value
abbrev pub when : Bool → Storage → Option Storage
when allowed storage = if allowed then Some storage else None

-- whole seconds in so many bytes, and x decimal digits of a fraction, at most six of them, two in a byte
abbrev pub with_fraction : ℕ → ℕ → Option Storage
with_fraction seconds x = when (nat_le x 6) (Fixed (seconds + (x + 1) / 2))

-- a length of x bytes, from one to four
abbrev pub counted_in : ℕ → Option Storage
counted_in x = when (is_one_of (1 ∷ 2 ∷ 3 ∷ 4 ∷ []) x) (Counted x)

-- a length of one byte up to the greatest length 255, else of two
abbrev pub counted_up_to : ℕ → Storage
counted_up_to greatest = Counted (if nat_le greatest 255 then 1 else 2)

-- the bytes of a decimal's d digits, in groups of nine
abbrev pub digits_width : ℕ → ℕ
digits_width d = 4 * (d / 9) + slice_index (0 ∷ 1 ∷ 1 ∷ 2 ∷ 2 ∷ 3 ∷ 3 ∷ 4 ∷ 4 ∷ []) (d % 9)

-- a decimal of x digits, y of them behind the point
abbrev pub decimal_storage : ℕ → ℕ → Option Storage
decimal_storage x y = when (nat_le y x) (Fixed (digits_width (x - y) + digits_width y))

-- the greatest length of a STRING column: bits 4 and 5 of the first byte hold bits 8 and 9 of the length, exclusive or 3
abbrev pub string_greatest : ℕ → ℕ → ℕ
string_greatest x y = y + 256 * bit_xor (bit_and (x / 16) 3) 3

-- an ENUM (247) or a SET (248) of y bytes, or text up to a greatest length
abbrev pub string_storage : ℕ → ℕ → Storage
string_storage x y = if is_one_of (247 ∷ 248 ∷ []) x then Fixed y else counted_up_to (string_greatest x y)

-- each type of the profile, by its number
unfoldable pub column_types : List (ℕ × Rule)
column_types =
    (1, Plain (Fixed 1))  -- TINY
    ∷ (2, Plain (Fixed 2))  -- SHORT
    ∷ (3, Plain (Fixed 4))  -- LONG
    ∷ (4, ByByte (λ x. when (x == 4) (Fixed 4)))  -- FLOAT
    ∷ (5, ByByte (λ x. when (x == 8) (Fixed 8)))  -- DOUBLE
    ∷ (7, Plain (Fixed 4))  -- TIMESTAMP
    ∷ (8, Plain (Fixed 8))  -- LONGLONG
    ∷ (9, Plain (Fixed 3))  -- INT24
    ∷ (10, Plain (Fixed 3))  -- DATE
    ∷ (11, Plain (Fixed 3))  -- TIME
    ∷ (12, Plain (Fixed 8))  -- DATETIME
    ∷ (13, Plain (Fixed 1))  -- YEAR
    ∷ (15, ByPair (λ x y. Some (counted_up_to (x + 256 * y))))  -- VARCHAR
    ∷ (16, ByPair (λ x y. Some (Fixed (y + (if x == 0 then 0 else 1)))))  -- BIT
    ∷ (17, ByByte (λ x. with_fraction 4 x))  -- TIMESTAMP2
    ∷ (18, ByByte (λ x. with_fraction 5 x))  -- DATETIME2
    ∷ (19, ByByte (λ x. with_fraction 3 x))  -- TIME2
    ∷ (245, ByByte (λ x. counted_in x))  -- JSON
    ∷ (246, ByPair (λ x y. decimal_storage x y))  -- NEWDECIMAL
    ∷ (252, ByByte (λ x. counted_in x))  -- BLOB
    ∷ (254, ByPair (λ x y. Some (string_storage x y)))  -- STRING
    ∷ (255, ByByte (λ x. counted_in x))  -- GEOMETRY
    ∷ []

-- the rule of a type among so many
abbrev pub rule_among : List (ℕ × Rule) → ℕ → Option Rule
rule_among [] kind = None
rule_among (one ∷ others) kind = if kind == one.0 then Some one.1 else rule_among others kind

-- the rule of a type, where the profile has the type
abbrev pub rule_of : ℕ → Option Rule
rule_of kind = rule_among column_types kind

-- how many bytes of metadata a rule has
abbrev pub rule_len : Rule → ℕ
rule_len (Plain storage) = 0
rule_len (ByByte storage) = 1
rule_len (ByPair storage) = 2

-- what a rule says of metadata, which has to have its length
abbrev pub rule_storage : Rule → List ℕ → Option Storage
rule_storage (Plain storage) [] = Some storage
rule_storage (ByByte storage) (x ∷ []) = storage x
rule_storage (ByPair storage) (x ∷ y ∷ []) = storage x y
rule_storage rule metadata = None

-- how many bytes of metadata a type has, where the profile has the type
unfoldable pub metadata_len_of : ℕ → Option ℕ
metadata_len_of kind = option_map rule_len (rule_of kind)

-- how a column is stored, where its type and its metadata are allowed
unfoldable pub storage_by : ℕ → List ℕ → Option Storage
storage_by kind metadata = option_and_then (λ rule. rule_storage rule metadata) (rule_of kind)

abbrev pub storage_of : Column → Option Storage
storage_of column = storage_by column.kind column.metadata

-- a column of the profile
abbrev pub is_column : Column → Bool
is_column column = is_some (storage_of column)

-- ---- type bytes and metadata bytes of a layout

abbrev pub types_of : Layout → List ℕ
types_of layout = flat_map (λ column. column.kind ∷ []) layout

abbrev pub metadata_of : Layout → List ℕ
metadata_of layout = flat_map (λ column. column.metadata) layout

-- how many bytes of metadata a type has, 0 where the profile lacks it
abbrev pub own_metadata_len : ℕ → ℕ
own_metadata_len kind = unwrap_or (metadata_len_of kind) 0

-- how many bytes of metadata the types have together
abbrev pub metadata_total : List ℕ → ℕ
metadata_total [] = 0
metadata_total (kind ∷ kinds) = own_metadata_len kind + metadata_total kinds

-- the columns of type bytes and metadata bytes
abbrev pub columns_of : List ℕ → List ℕ → Layout
columns_of [] metadata = []
columns_of (kind ∷ kinds) metadata =
    record { kind = kind; metadata = take (own_metadata_len kind) metadata } ∷ columns_of kinds (drop (own_metadata_len kind) metadata)

-- ---- spelling

-- the bytes spell the value: the value itself, or its length in so many bytes, the lowest first, and then the value
abbrev pub SpellsAs : Storage → List ℕ → List ℕ → Type 0
SpellsAs (Fixed width) value bytes = (length value ≡ width) × (bytes ≡ value)
SpellsAs (Counted prefix) value bytes = (count : List ℕ) × (length count ≡ prefix) × (little_number prefix count ≡ length value) × (bytes ≡ count ++ value)

abbrev pub Spells : Column → List ℕ → List ℕ → Type 0
Spells column value bytes = (storage : Storage) × (storage_of column ≡ Some storage) × SpellsAs storage value bytes

-- the value that is spelled at the front, and the bytes behind it
abbrev pub value_stored : Storage → List ℕ → Option (List ℕ × List ℕ)
value_stored (Fixed width) bytes = cut width bytes
value_stored (Counted prefix) bytes = option_and_then (λ p. cut (little_number prefix p.0) p.1) (cut prefix bytes)

unfoldable pub value_front : Column → List ℕ → Option (List ℕ × List ℕ)
value_front column bytes = option_and_then (λ storage. value_stored storage bytes) (storage_of column)
