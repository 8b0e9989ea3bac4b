-- What a contract sees of an iterator over the rows of a rows event.
use Rattle.std.specs.Prelude.{ℕ, List, [], length, option_map, unwrap_or}
use Rattle.blog_row.specs.declared.rows.RowChange as row
use Rattle.blog_row.specs.declared.rows.Rows as told
use Rattle.blog_row.specs.code.LayoutView.{layout_columns}
use Rattle.blog_row.specs.Image.{images_of}
use Rattle.blog_row.specs.RowsEvent.{RowImages, rows_by}

-- the images of a row
abbrev pub row_seen : row.RowChange → RowImages
row_seen change = record { before = option_map (λ image. image.now) change.before; after = option_map (λ image. image.now) change.after }

-- the images that are left
abbrev pub images_left : told.Rows → List (List ℕ)
images_left rows = unwrap_or (images_of (layout_columns rows.layout) rows.rest.now) []

-- the rows that are left
abbrev pub rows_left : told.Rows → List RowImages
rows_left rows = rows_by rows.action (images_left rows)

-- how many they are at most: one for each byte of the images
abbrev pub most_left : told.Rows → ℕ
most_left rows = length rows.rest.now
