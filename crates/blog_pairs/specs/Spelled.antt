-- The image of a row as it is written: which bits mark NULLs, and how each value is spelled.
use Rattle.std.specs.Prelude.{◌≡◌, ◌≤◌, ℕ, false, if◌then◌else◌, List, [], ◌∷◌, ◌++◌, length, Option, Some, None}
use Rattle.byteorder.specs.Endian.{little_bytes}
use Rattle.blog_flash.specs.States.{is_same_value}
use Rattle.blog_row.specs.Column.{Layout, Storage, Fixed, Counted, storage_of}
use Rattle.blog_row.specs.Image.{MarksNulls, Row, bitmap_len, is_marked}

-- ---- values

-- how many bytes the length in front of a value has
abbrev pub prefix_stored : Storage → ℕ
prefix_stored (Fixed width) = 0
prefix_stored (Counted prefix) = prefix

abbrev pub prefix_of : Option Storage → ℕ
prefix_of None = 0
prefix_of (Some storage) = prefix_stored storage

-- a value: its length, if it has one in front, and its bytes
abbrev pub value_text : Option Storage → Option (List ℕ) → List ℕ
value_text storage None = []
value_text storage (Some value) = little_bytes (prefix_of storage) (length value) ++ value

-- the values of a row
abbrev pub values_text : Layout → Row → List ℕ
values_text [] row = []
values_text (column ∷ columns) [] = []
values_text (column ∷ columns) (value ∷ row) = value_text (storage_of column) value ++ values_text columns row

-- ---- null bits

-- the bits of a row's NULLs are set, and no other
pub record MarksOnly (nulls : List ℕ) (row : Row) : Type 0 where
  pub marks : MarksNulls nulls row
  pub free : (i : ℕ) → length row ≤ i → is_marked nulls i ≡ false

-- they are appended
pub record PutsNulls (row : Row) (before after : List ℕ) : Type 0 where
  pub nulls : List ℕ
  pub text : after ≡ before ++ nulls
  pub long : length nulls ≡ bitmap_len (length row)
  pub marks : MarksOnly nulls row

-- ---- an update that is made to another row

-- the value of a column: kept if the update leaves it
abbrev pub merged_value : Option (Option (List ℕ)) → Option (List ℕ) → Option (Option (List ℕ)) → Option (List ℕ)
merged_value None after other = after
merged_value (Some before) after None = after
merged_value (Some before) after (Some other) = if is_same_value before after then other else after
