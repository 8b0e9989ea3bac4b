-- What a contract sees of events that are to be written.
use Rattle.blog_event.specs.Event.{event_of, unplaced}
use Rattle.blog_row.specs.code.RowsEventView.{rows_content}
use Rattle.blog_row.specs.RowsWriting.{content_in}
use Rattle.blog_trans.specs.Groups.{RowsEvent}
use Rattle.blog_flash.specs.Written as value
use Rattle.blog_flash.specs.Written.{Written}
use Rattle.blog_flash.specs.declared.written_event.WrittenRows.{WrittenRows}
use Rattle.blog_flash.specs.declared.written_event.WrittenEvent.{WrittenEvent}
use Rattle.blog_flash.specs.declared.written_event.WrittenEvent.TheVariants as told

-- the rows event that is written
abbrev pub rows_told : WrittenRows → RowsEvent
rows_told rows = record {
  timestamp = rows.event.header.timestamp;
  server_id = rows.event.header.server_id;
  header_flags = rows.event.header.flags;
  map = rows.map.now;
  content = content_in rows.order (rows_content rows.rows);
}

-- the event that is written
abbrev pub written_told : WrittenEvent → Written
written_told (told.Same event) = value.Same (unplaced (event_of event))
written_told (told.Map event) = value.Maps (unplaced (event_of event))
written_told (told.Rows rows) = value.Changes (rows_told rows) rows.last
