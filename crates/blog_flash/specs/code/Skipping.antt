-- What a contract sees of events to be written that are skipped.
use Rattle.std.specs.Prelude.{◌≡◌, ◌+◌, List, [], ◌∷◌, Option, None, Some}
use Rattle.blog_event.specs.Event.{event_of, event_size, unplaced}
use Rattle.blog_row.specs.RowsEvent.{table_id}
use Rattle.blog_trans.specs.Groups.{RowsEvent}
use Rattle.blog_trans.specs.declared.group_events.SkippedEvent.{SkippedEvent}
use Rattle.blog_trans.specs.declared.group_events.SkippedEvent.TheVariants as over
use Rattle.blog_trans.specs.declared.group_events.SkippedRows.{SkippedRows}
use Rattle.blog_flash.specs.Texts.{rows_event}
use Rattle.blog_flash.specs.Written.{Written, Same, Maps, Changes}

-- a rows event: its table id, and how long the body is that is written for it
pub record IsSkippedRows (r : RowsEvent) (rows : SkippedRows) : Type 0 where
  pub id : table_id rows.event.body.now ≡ r.content.id
  pub len : event_size (rows_event rows.last r) ≡ 19 + rows.len

-- which event it is
abbrev pub IsSkipped : SkippedEvent → Written → Type 0
IsSkipped (over.Begin event) w = w ≡ Same (unplaced (event_of event))
IsSkipped (over.Map event) w = w ≡ Maps (unplaced (event_of event))
IsSkipped (over.Rows rows) w = (r : RowsEvent) × (w ≡ Changes r rows.last) × IsSkippedRows r rows
IsSkipped (over.End event) w = w ≡ Same (unplaced (event_of event))

-- the first event of what is to come is skipped, and none where nothing is to come
abbrev pub Skips : {S : Type 0} → (S → List Written) → S → Option SkippedEvent → S → Type 0
Skips to_come before None after = (to_come before ≡ []) × (to_come after ≡ [])
Skips to_come before (Some event) after = (w : Written) × (to_come before ≡ w ∷ to_come after) × IsSkipped event w
