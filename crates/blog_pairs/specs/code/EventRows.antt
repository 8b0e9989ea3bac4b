-- The rows of a rows event that was read.
use Rattle.std.specs.Prelude.{List}
use Rattle.blog_row.specs.RowsEvent.{RowImages, rows_by}
use Rattle.blog_row.specs.code.RowsEventView.{rows_body, rows_kind}
use Rattle.blog_row.specs.declared.rows_event.RowsEvent as told

-- by their images, in order
abbrev pub event_rows : told.RowsEvent → List RowImages
event_rows rows = rows_by (rows_kind rows).action (rows_body rows).images
