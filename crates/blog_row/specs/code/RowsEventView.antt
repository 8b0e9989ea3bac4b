-- What a contract sees of a rows event, and what the calls that read one give.
use Rattle.std.specs.Prelude.{ℕ, nat_le, if◌then◌else◌, Bool, List, [], ◌++◌, length, Option, Result, Ok, Err, option_map, option_and_then, unwrap_or}
use Rattle.std.specs.List.{concat}
use Rattle.byteorder.specs.Endian.{little_bytes, little_number}
use Rattle.blog_row.specs.declared.fault.RowFault.{RowFault}
use Rattle.blog_row.specs.declared.fault.RowFault.TheVariants.{BadBody}
use Rattle.blog_row.specs.declared.kind.RowsAction.{RowsAction}
use Rattle.blog_row.specs.declared.kind.RowsKind.{RowsKind}
use Rattle.blog_row.specs.declared.kind.RowsVersion.{RowsVersion}
use Rattle.blog_row.specs.declared.rows_event.RowsHead as head
use Rattle.blog_row.specs.declared.rows_parts.Extra as extra
use Rattle.blog_row.specs.declared.rows_parts.Front as front
use Rattle.blog_row.specs.declared.rows_parts.Bitmaps as bits
use Rattle.blog_row.specs.declared.rows_event.RowsEvent as told
use Rattle.blog_row.specs.declared.layout.Layout as columns
use Rattle.blog_row.specs.Checks.{cut}
use Rattle.blog_row.specs.Image.{images_of}
use Rattle.blog_row.specs.code.LayoutView.{layout_columns}
use Rattle.blog_row.specs.RowsEvent.{RowsBody, bitmaps_by, extra_of, fixed_len, table_id, flags_of}
use Rattle.blog_row.specs.RowsWriting.{RowsContent, content_of, no_extra, written_flags}

-- ---- the fixed part

-- the table id and the flags, where the body is as long as the fixed part of its version
abbrev pub head_of : RowsVersion → List ℕ → Result head.RowsHead RowFault
head_of version body = if nat_le (fixed_len version) (length body) then Ok (record { table = little_number 6 (table_id body); bits = flags_of body }) else Err BadBody

-- the table id and the flags that were read
abbrev pub head_table : head.RowsHead → ℕ
head_table head = head.table

abbrev pub head_flags : head.RowsHead → ℕ
head_flags head = head.bits

-- ---- the parts

-- the fields up to the extra bytes, and the bytes behind them
abbrev pub FrontParts : Type 0
FrontParts = List ℕ × List ℕ × List ℕ × List ℕ × List ℕ

abbrev pub front_seen : front.Front → FrontParts
front_seen f = (f.id.now, f.flags.now, f.extra_len.now, f.extra.now, f.rest.now)

abbrev pub front_of : List ℕ → List ℕ → List ℕ × List ℕ × List ℕ → FrontParts
front_of id flags extra = (id, flags, extra.0, extra.1, extra.2)

unfoldable pub rows_front : RowsVersion → List ℕ → Option FrontParts
rows_front version body =
    option_and_then (λ id. option_and_then (λ flags. option_map (front_of id.0 flags.0) (extra_of version flags.1)) (cut 2 id.1)) (cut 6 body)

-- the extra length, the extra bytes, and the bytes behind them
abbrev pub extra_seen : extra.Extra → List ℕ × List ℕ × List ℕ
extra_seen e = (e.len.now, e.bytes.now, e.rest.now)

-- the bitmaps, and the bytes behind them
abbrev pub bitmaps_seen : RowsAction → bits.Bitmaps → List (List ℕ) × List ℕ
bitmaps_seen action b = (bitmaps_by action b.first.now b.second.now, b.rest.now)

-- ---- the event

-- what it does to its rows, and the columns of its table
abbrev pub rows_kind : told.RowsEvent → RowsKind
rows_kind event = event.kind

abbrev pub rows_layout : told.RowsEvent → columns.Layout
rows_layout event = event.layout

-- the fields of the body
abbrev pub rows_body : told.RowsEvent → RowsBody
rows_body event = record {
  id = event.id.now;
  flags = event.flags.now;
  extra_len = event.extra_len.now;
  extra = event.extra.now;
  count = event.count.now;
  bitmaps = bitmaps_by event.kind.action event.first.now event.second.now;
  images = unwrap_or (images_of (layout_columns event.layout) event.images.now) [];
}

-- what is kept of it
abbrev pub rows_content : told.RowsEvent → RowsContent
rows_content event = content_of event.kind (rows_body event)

-- the fields that were read, or why they are refused
abbrev pub rows_seen : Result told.RowsEvent RowFault → Result RowsBody RowFault
rows_seen (Ok event) = Ok (rows_body event)
rows_seen (Err fault) = Err fault

-- the same of the fields that were read beside the number of their images
abbrev pub counted_seen : Result (told.RowsEvent × ℕ) RowFault → Result RowsBody RowFault
counted_seen (Ok read) = Ok (rows_body read.0)
counted_seen (Err fault) = Err fault

-- ---- what is written

-- all fields of the body but the images
unfoldable pub written_front : Bool → RowsContent → List ℕ
written_front last c = c.id ++ (little_bytes 2 (written_flags last c.flags) ++ (no_extra c.kind.version ++ (c.count ++ concat c.bitmaps)))
