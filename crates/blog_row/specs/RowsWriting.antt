-- The body that is written for a rows event: its rows as they stand, or reversed (MySQL Internals manual, "Rows_event";
-- MariaDB Knowledge Base, "Flashback").
use Rattle.std.specs.Prelude.{ℕ, ◌+◌, ◌-◌, ◌%◌, Bool, if◌then◌else◌, List, [], ◌∷◌, map, reverse}
use Rattle.std.specs.List.{flat_map}
use Rattle.byteorder.specs.Endian.{little_bytes, little_number}
use Rattle.blog_row.specs.declared.kind.RowsAction.{RowsAction}
use Rattle.blog_row.specs.declared.kind.RowsAction.TheVariants.{Write, Update, Delete}
use Rattle.blog_row.specs.declared.kind.RowsKind.{RowsKind}
use Rattle.blog_row.specs.declared.kind.RowsVersion.{RowsVersion}
use Rattle.blog_row.specs.declared.kind.RowsVersion.TheVariants.{One, Two}
use Rattle.blog_row.specs.declared.order.Order.{Order}
use Rattle.blog_row.specs.declared.order.Order.TheVariants.{Forward, Backward}
use Rattle.blog_row.specs.RowsEvent.{RowsBody, rows_text}
use Rattle.blog_row.specs.RowsKind.{opposite_kind}

-- what is kept of a rows event's body: all but the extra bytes and the end flag
pub record RowsContent : Type 0 where
  pub kind : RowsKind
  pub id : List ℕ
  pub flags : ℕ
  pub count : List ℕ
  pub bitmaps : List (List ℕ)
  pub images : List (List ℕ)

-- the flags without the end flag
abbrev pub kept_flags : ℕ → ℕ
kept_flags flags = flags - flags % 2

abbrev pub content_of : RowsKind → RowsBody → RowsContent
content_of kind b = record { kind = kind; id = b.id; flags = kept_flags (little_number 2 b.flags); count = b.count; bitmaps = b.bitmaps; images = b.images }

-- ---- reversed

abbrev pub in_twos : List (List ℕ) → List (List (List ℕ))
in_twos [] = []
in_twos (image ∷ []) = (image ∷ []) ∷ []
in_twos (before ∷ after ∷ images) = (before ∷ after ∷ []) ∷ in_twos images

-- the images of each row: an update has two a row, the others have one
abbrev pub images_by_row : RowsAction → List (List ℕ) → List (List (List ℕ))
images_by_row Write images = map (λ image. image ∷ []) images
images_by_row Update images = in_twos images
images_by_row Delete images = map (λ image. image ∷ []) images

-- the one before and the one after exchanged, where there are two
abbrev pub exchanged : List (List ℕ) → List (List ℕ)
exchanged [] = []
exchanged (one ∷ []) = one ∷ []
exchanged (before ∷ after ∷ []) = after ∷ before ∷ []
exchanged (one ∷ two ∷ three ∷ more) = one ∷ two ∷ three ∷ more

-- the images of rows from the last to the first, the two images of each exchanged
abbrev pub reversed_rows : List (List (List ℕ)) → List (List ℕ)
reversed_rows rows = flat_map exchanged (reverse rows)

-- what undoes it: the opposite kind, the rows reversed, and the two bitmaps of an update exchanged
abbrev pub reversed_content : RowsContent → RowsContent
reversed_content c = record c {
  kind = opposite_kind c.kind;
  bitmaps = exchanged c.bitmaps;
  images = reversed_rows (images_by_row c.kind.action c.images);
}

-- ---- in either order

abbrev pub kind_in : Order → RowsKind → RowsKind
kind_in Forward kind = kind
kind_in Backward kind = opposite_kind kind

abbrev pub content_in : Order → RowsContent → RowsContent
content_in Forward c = c
content_in Backward c = reversed_content c

-- ---- written

-- an extra length of 2 and no extra bytes; version 1 has neither
abbrev pub no_extra : RowsVersion → List ℕ
no_extra One = []
no_extra Two = 2 ∷ 0 ∷ []

-- the end flag is on the last of its statement
abbrev pub written_flags : Bool → ℕ → ℕ
written_flags last flags = if last then flags + 1 else flags

-- the fields that are written, of the same version
abbrev pub written_fields : Bool → RowsContent → RowsBody
written_fields last c = record {
  id = c.id;
  flags = little_bytes 2 (written_flags last c.flags);
  extra_len = no_extra c.kind.version;
  extra = [];
  count = c.count;
  bitmaps = c.bitmaps;
  images = c.images;
}

unfoldable pub written_body : Bool → RowsContent → List ℕ
written_body last c = rows_text (written_fields last c)
