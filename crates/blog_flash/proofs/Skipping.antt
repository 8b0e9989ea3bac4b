-- An event of groups that was skipped is one of those to be written.
use Rattle.std.proofs.Common.{◌≡◌, ℕ, ◌+◌, Bool, true, length, map, Option, None, Some, sym, ap, ◌∙◌}
use Rattle.blog_event.specs.Event.{event_size}
use Rattle.blog_row.specs.RowsWriting.{content_of, written_body}
use Rattle.blog_row.specs.declared.order.Order.{Order}
use Rattle.blog_row.specs.declared.order.Order.TheVariants.{Forward}
use Rattle.blog_row.proofs.WrittenBody.{body-len, kept}
use Rattle.blog_trans.specs.Groups.{RowsEvent, rows_value}
use Rattle.blog_trans.specs.code.GroupEventsView as group
use Rattle.blog_trans.specs.code.GroupEventsView.{SkipsEvent}
use Rattle.blog_trans.specs.declared.group_events.GroupEvents.{GroupEvents}
use Rattle.blog_trans.specs.code.InTurn.{GroupEvent}
use Rattle.blog_trans.specs.declared.group_events.SkippedEvent.{SkippedEvent}
use Rattle.blog_trans.specs.declared.group_events.SkippedEvent.TheVariants as over
use Rattle.blog_flash.specs.Texts.{rows_event}
use Rattle.blog_flash.specs.code.LaidOut.{rows_in, written_in}
use Rattle.blog_flash.specs.code.Skipping.{IsSkipped, Skips}
use Rattle.blog_flash.specs.code.WrittenGroupsView.{groups_to_come}

-- neither the order nor the end flag changes its length
rows-length : (order : Order) (last : Bool) (r : RowsEvent) → event_size (rows_event last (rows_in order r)) ≡ 19 + length (written_body true r.content)
rows-length order last r = ap (λ (n : ℕ). 19 + n) (body-len order last r.content ∙ sym (body-len Forward true r.content))

pub skipped-written : (order : Order) (event : SkippedEvent) (e : GroupEvent) → group.IsSkipped event e → IsSkipped event (written_in order e)
skipped-written order (over.Begin event) e is = ap (written_in order) is
skipped-written order (over.Map event) e is = ap (written_in order) is
skipped-written order (over.Rows rows) e (r, is, known) = (
  rows_in order (rows_value r),
  ap (written_in order) is,
  record {
    id = known.id ∙ sym (kept order (content_of r.kind r.body)).id;
    len = rows-length order rows.last (rows_value r) ∙ ap (λ (n : ℕ). 19 + n) (sym known.len);
  },
)
skipped-written order (over.End event) e is = ap (written_in order) is

pub skips-written : {A : Type 0} (order : Order) (before : GroupEvents A) (event : Option SkippedEvent) (after : GroupEvents A) → SkipsEvent before event after
    → Skips groups_to_come (record { events = before; order = order }) event (record { events = after; order = order })
skips-written order before None after (was, is) = (ap (map (written_in order)) was, ap (map (written_in order)) is)
skips-written order before (Some event) after (e, first, is) = (written_in order e, ap (map (written_in order)) first, skipped-written order event e is)
