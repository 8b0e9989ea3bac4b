-- Rows and their images: null bits, and the values that are not NULL (MySQL Internals manual, "Rows_event").
use Rattle.std.specs.Prelude.{◌≡◌, ◌+◌, ◌-◌, ◌/◌, ◌%◌, ◌^◌, ◌<◌, ℕ, zero, suc, List, [], ◌∷◌, ◌++◌, length, take, Option, Some, None, slice_index, slice_index_or, slice_get, is_none, ◌==◌, Bool, if◌then◌else◌, option_map, option_and_then, unwrap_or}
use Rattle.blog_row.specs.Checks.{cut}
use Rattle.blog_row.specs.Column.{Layout, Spells, value_front}

-- a value for each column, None where it is NULL
abbrev pub Row : Type 0
Row = List (Option (List ℕ))

-- ---- bitmaps

-- the bytes of one bit for each of n columns
abbrev pub bitmap_len : ℕ → ℕ
bitmap_len n = (n + 7) / 8

-- bit i of a bitmap is set, the lowest bit of a byte first
abbrev pub is_marked : List ℕ → ℕ → Bool
is_marked bitmap i = (slice_index bitmap (i / 8) / 2 ^ (i % 8)) % 2 == 1

-- ---- what an image is

-- the values that are there, each spelled as its column says, one after the other
abbrev pub SpellsRow : Layout → Row → List ℕ → Type 0
SpellsRow [] [] bytes = bytes ≡ []
SpellsRow [] (value ∷ row) bytes = ⊥
SpellsRow (column ∷ columns) [] bytes = ⊥
SpellsRow (column ∷ columns) (None ∷ row) bytes = SpellsRow columns row bytes
SpellsRow (column ∷ columns) (Some value ∷ row) bytes =
    (first others : List ℕ) × Spells column value first × SpellsRow columns row others × (bytes ≡ first ++ others)

-- the null bits mark exactly the values that are absent; bits past the last column are free
abbrev pub MarksNulls : List ℕ → Row → Type 0
MarksNulls nulls row = (i : ℕ) → i < length row → is_marked nulls i ≡ is_none (slice_index_or row i None)

-- the bytes are an image of the row
pub record IsImage (layout : Layout) (row : Row) (bytes : List ℕ) : Type 0 where
  pub nulls : List ℕ
  pub values : List ℕ
  pub parts : bytes ≡ nulls ++ values
  pub long : length nulls ≡ bitmap_len (length layout)
  pub marks : MarksNulls nulls row
  pub spells : SpellsRow layout row values

-- the bytes are an image
abbrev pub IsSomeImage : Layout → List ℕ → Type 0
IsSomeImage layout bytes = (row : Row) × IsImage layout row bytes

-- ---- reading, from the front

-- the values of the columns from column i on, and the bytes behind them
unfoldable pub values_front : Layout → List ℕ → ℕ → List ℕ → Option (Row × List ℕ)
values_front [] nulls i bytes = Some ([], bytes)
values_front (column ∷ columns) nulls i bytes =
    if is_marked nulls i
    then option_map (λ r. (None ∷ r.0, r.1)) (values_front columns nulls (i + 1) bytes)
    else option_and_then (λ v. option_map (λ r. (Some v.0 ∷ r.0, r.1)) (values_front columns nulls (i + 1) v.1)) (value_front column bytes)

-- the row of the image at the front, and the bytes behind the image
unfoldable pub image_front : Layout → List ℕ → Option (Row × List ℕ)
image_front layout bytes = option_and_then (λ p. values_front layout p.0 0 p.1) (cut (bitmap_len (length layout)) bytes)

-- how long the image at the front is
abbrev pub image_len_of : Layout → List ℕ → Option ℕ
image_len_of layout bytes = option_map (λ r. length bytes - length r.1) (image_front layout bytes)

-- the row of an image; the empty row, where it is none
unfoldable pub row_of : Layout → List ℕ → Row
row_of layout image = unwrap_or (option_map (λ r. r.0) (image_front layout image)) []

-- the value of a column in the image at the front, None where no image is there or the column is out of range
abbrev pub value_of : Layout → List ℕ → ℕ → Option (Option (List ℕ))
value_of layout bytes column = option_and_then (λ r. slice_get r.0 column) (image_front layout bytes)

-- bytes as images without a gap or remainder, at most so many
unfoldable pub images_up_to : ℕ → Layout → List ℕ → Option (List (List ℕ))
images_up_to n layout [] = Some []
images_up_to zero layout (b ∷ bytes) = None
images_up_to (suc n) layout (b ∷ bytes) =
    option_and_then (λ r. option_map (λ images. take (suc (length bytes) - length r.1) (b ∷ bytes) ∷ images) (images_up_to n layout r.1)) (image_front layout (b ∷ bytes))

-- no image is empty, so there are no more images than bytes
abbrev pub images_of : Layout → List ℕ → Option (List (List ℕ))
images_of layout bytes = images_up_to (length bytes) layout bytes
