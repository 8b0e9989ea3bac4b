-- The body of a rows event (MySQL Internals manual, "Rows_event").
use Rattle.std.specs.Prelude.{◌≡◌, ◌+◌, ◌-◌, ◌%◌, ◌<◌, ℕ, zero, suc, ◌==◌, nat_le, Bool, true, ◌&&◌, List, [], ◌∷◌, ◌++◌, length, take, drop, map, if◌then◌else◌, Option, Some, None, option_map, option_and_then, Result, Ok}
use Rattle.std.specs.List.{list_all, concat, AllByRecursion}
use Rattle.byteorder.specs.Endian.{little_number}
use Rattle.blog_row.specs.declared.kind.RowsAction.{RowsAction}
use Rattle.blog_row.specs.declared.kind.RowsAction.TheVariants.{Write, Update, Delete}
use Rattle.blog_row.specs.declared.kind.RowsKind.{RowsKind}
use Rattle.blog_row.specs.declared.kind.RowsVersion.{RowsVersion}
use Rattle.blog_row.specs.declared.kind.RowsVersion.TheVariants.{One, Two}
use Rattle.blog_row.specs.declared.fault.RowFault.{RowFault}
use Rattle.blog_row.specs.declared.fault.RowFault.TheVariants.{BadBody, PartialImage}
use Rattle.blog_row.specs.RowsKind.{images_a_row}
use Rattle.blog_row.specs.Checks.{◌>>=◌, check, or_bad, cut}
use Rattle.blog_row.specs.Packed.{IsPacked, packed_front}
use Rattle.blog_row.specs.Column.{Layout}
use Rattle.blog_row.specs.Image.{bitmap_len, is_marked, IsSomeImage, images_of}

-- ---- what a body is

-- six bytes of id, two of flags, in version 2 two of the extra length and the extra bytes, the packed column count, one bitmap
-- for each image that a row has, and the images of all rows
pub record RowsBody : Type 0 where
  pub id : List ℕ
  pub flags : List ℕ
  pub extra_len : List ℕ
  pub extra : List ℕ
  pub count : List ℕ
  pub bitmaps : List (List ℕ)
  pub images : List (List ℕ)

-- the fields, joined
abbrev pub rows_text : RowsBody → List ℕ
rows_text b = b.id ++ (b.flags ++ (b.extra_len ++ (b.extra ++ (b.count ++ (concat b.bitmaps ++ concat b.images)))))

-- a bitmap of n columns whose first n bits are set
pub record IsFullBitmap (n : ℕ) (bitmap : List ℕ) : Type 0 where
  pub long : length bitmap ≡ bitmap_len n
  pub full : (i : ℕ) → i < n → is_marked bitmap i ≡ true

-- the extra length counts its own two bytes; version 1 has neither it nor extra bytes
abbrev pub HasExtra : RowsVersion → List ℕ → List ℕ → Type 0
HasExtra One extra_len extra = (extra_len ≡ []) × (extra ≡ [])
HasExtra Two extra_len extra = (length extra_len ≡ 2) × (little_number 2 extra_len ≡ length extra + 2)

-- what the fields are; updates have an even number of images
pub record IsRowsBody (kind : RowsKind) (layout : Layout) (body : List ℕ) (b : RowsBody) : Type 0 where
  pub id_len : length b.id ≡ 6
  pub flags_len : length b.flags ≡ 2
  pub extra_counted : HasExtra kind.version b.extra_len b.extra
  pub counted : IsPacked b.count (length layout)
  pub bitmaps_enough : length b.bitmaps ≡ images_a_row kind.action
  pub bitmaps_full : AllByRecursion (IsFullBitmap (length layout)) b.bitmaps
  pub images_each : AllByRecursion (IsSomeImage layout) b.images
  pub rows_whole : length b.images % images_a_row kind.action ≡ 0
  pub text : body ≡ rows_text b

-- ---- reading it

-- the first n bits are set
abbrev pub are_marked : ℕ → List ℕ → Bool
are_marked zero bitmap = true
are_marked (suc n) bitmap = is_marked bitmap n && are_marked n bitmap

-- so many pieces of n bytes each, and the bytes behind them
abbrev pub pieces : ℕ → ℕ → List ℕ → Result (List (List ℕ) × List ℕ) RowFault
pieces zero n bytes = Ok ([], bytes)
pieces (suc k) n bytes = do
  (first, rest) ← or_bad (cut n bytes)
  (others, rest) ← pieces k n rest
  Ok (first ∷ others, rest)

-- the extra bytes behind their length, which counts its own two bytes
abbrev pub counted_extra : List ℕ × List ℕ → Option (List ℕ × List ℕ × List ℕ)
counted_extra len =
    if nat_le 2 (little_number 2 len.0)
    then option_map (λ extra. (len.0, extra.0, extra.1)) (cut (little_number 2 len.0 - 2) len.1)
    else None

-- the extra length and the extra bytes at the front, and the bytes behind them
abbrev pub extra_of : RowsVersion → List ℕ → Option (List ℕ × List ℕ × List ℕ)
extra_of One bytes = Some ([], [], bytes)
extra_of Two bytes = option_and_then counted_extra (cut 2 bytes)

-- the fields of a rows event's body, or the first check that fails
unfoldable pub rows_of : RowsKind → Layout → List ℕ → Result RowsBody RowFault
rows_of kind layout body = do
  (id, rest) ← or_bad (cut 6 body)
  (flags, rest) ← or_bad (cut 2 rest)
  (extra_len, extra, rest) ← or_bad (extra_of kind.version rest)
  (n, count, rest) ← or_bad (packed_front rest)
  check (n == length layout) BadBody (do
    (bitmaps, rest) ← pieces (images_a_row kind.action) (bitmap_len (length layout)) rest
    check (list_all (are_marked (length layout)) bitmaps) PartialImage (do
      images ← or_bad (images_of layout rest)
      check (length images % images_a_row kind.action == 0) BadBody
          (Ok (record { id = id; flags = flags; extra_len = extra_len; extra = extra; count = count; bitmaps = bitmaps; images = images }))))

-- ---- bitmaps

-- a second bitmap is that of an update
abbrev pub bitmaps_by : RowsAction → List ℕ → List ℕ → List (List ℕ)
bitmaps_by Write first second = first ∷ []
bitmaps_by Update first second = first ∷ second ∷ []
bitmaps_by Delete first second = first ∷ []

-- the bitmaps as two, the second empty where there is none
abbrev pub two_bitmaps : List (List ℕ) → List ℕ × List ℕ
two_bitmaps [] = ([], [])
two_bitmaps (first ∷ []) = (first, [])
two_bitmaps (first ∷ second ∷ others) = (first, second)

-- ---- the fixed part of any rows body

-- eight bytes of id and flags, and in version 2 two of the extra length
abbrev pub fixed_len : RowsVersion → ℕ
fixed_len One = 8
fixed_len Two = 10

-- the table id, six bytes of a table map and of a rows event alike
abbrev pub table_id : List ℕ → List ℕ
table_id body = take 6 body

abbrev pub flags_of : List ℕ → ℕ
flags_of body = little_number 2 (drop 6 body)

-- flag 0x0001 marks the last rows event of a statement
abbrev pub has_end_flag : List ℕ → Bool
has_end_flag body = flags_of body % 2 == 1

-- ---- rows

-- a row's images, before and after
pub record RowImages : Type 0 where
  pub before : Option (List ℕ)
  pub after : Option (List ℕ)

-- each two images are one row
abbrev pub updated_rows : List (List ℕ) → List RowImages
updated_rows [] = []
updated_rows (before ∷ []) = []
updated_rows (before ∷ after ∷ images) = record { before = Some before; after = Some after } ∷ updated_rows images

abbrev pub rows_by : RowsAction → List (List ℕ) → List RowImages
rows_by Write images = map (λ image. record { before = None; after = Some image }) images
rows_by Update images = updated_rows images
rows_by Delete images = map (λ image. record { before = Some image; after = None }) images
