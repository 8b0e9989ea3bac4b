use Rattle.std.proofs.Common.{ap, sym, ◌∙◌, ◌++◌, arith}
use Rattle.blog_row.specs.code.LayoutView.{layout_columns}
use Rattle.blog_row.specs.code.RowsView.{row_seen, rows_left}
use Rattle.blog_row.specs.TableMap.{map_names}
use Rattle.blog_flash.specs.code.PrintedRows.{image_lines, images_lines}
use Rattle.blog_flash.proofs.PrintedParts.{seen-lines}
use Rattle.blog_flash.proofs.Printing.{has-room}
use Rattle.blog_flash.proofs.put_sql.put_changes.Goals as goal

pub loop-row-init : goal.loop-row-init
loop-row-init g c =
    let group = c.args.group.now in
    let rows = ap (λ rows. images_lines (map_names group.table).table (layout_columns group.rows.layout) (rows_left rows)) c.into_iter-row-iterator.ensures.into_iter_gives
    ∙ ap (images_lines (map_names group.table).table (layout_columns group.rows.layout)) c.rows-row-items.ensures.rows in
    record { next = tt; finite = tt; text = ap (λ text. c.args.out.now.items ++ text) (rows ∙ sym (seen-lines group c.requires)); capacity = omega arith }

pub returns-in_err-put_change-clause-room : goal.returns-in_err-put_change-clause-room
returns-in_err-put_change-clause-room g c enough =
    let table = (map_names c.args.group.now.table).table in
    let layout = layout_columns c.args.group.now.rows.layout in
    let row = row_seen c.in-Some.row in
    has-room _ _ _ _ (image_lines table layout row.before row.after) (images_lines table layout (rows_left c.next.new.self)) _ _ _ _ _ _ c.in_err-put_change.was
    (rw (c.new-layout.ensures, c.layout.ensures) at c.put_change.ensures.room) c.loop-row.invariant.text (ap (images_lines table layout) c.in-Some.ensures.steps)
    c.loop-row.out.ok.0 c.args.out.now.ok.0 c.loop-row.invariant.capacity enough
