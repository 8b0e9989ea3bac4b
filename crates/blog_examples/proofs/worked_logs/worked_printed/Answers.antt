use Rattle.blog_event.specs.Event.{event_text, event_at}
use Rattle.blog_event.specs.File.{events_from, read}
use Rattle.blog_row.specs.Packed.{packed_front}
use Rattle.blog_row.specs.Column.{column_types, metadata_len_of, storage_by, value_front}
use Rattle.blog_row.specs.Image.{values_front, image_front, images_up_to, row_of}
use Rattle.blog_row.specs.TableMap.{name_front, names_of, layout_fields, layout_of}
use Rattle.blog_row.specs.RowsEvent.{rows_of}
use Rattle.blog_row.specs.RowsWriting.{written_body}
use Rattle.blog_row.specs.Kinds.{query_text, query_kind, kind_of}
use Rattle.blog_trans.specs.Groups.{placed_groups, groups}
use Rattle.blog_flash.specs.Texts.{laid_out, flashback_text}
use Rattle.blog_flash.specs.Printed.{sql_text, summary_text}
use Rattle.hex.specs.Hex.{encode_with}
use Rattle.std.specs.Fmt.{digits}
use Rattle.blog_examples.proofs.worked_logs.worked_printed.Goals as goal

-- each by computation; the digits of a decimal number unfold in a proof file alone
pub returns : goal.returns
unfolding event_text event_at events_from read packed_front column_types metadata_len_of storage_by value_front values_front image_front images_up_to name_front names_of layout_fields layout_of rows_of query_text query_kind kind_of placed_groups groups written_body laid_out flashback_text sql_text summary_text row_of encode_with digits
returns c = assumption
