use Rattle.std.proofs.Common.{◌++◌, ap, sym, ◌∙◌}
use Rattle.blog_later.specs.code.EventChanges.{images_changes}
use Rattle.blog_later.specs.code.LookedView.{left_before}
use Rattle.blog_later.proofs.EventChanges.{seen-changed}
use Rattle.blog_row.specs.TableMap.{map_names}
use Rattle.blog_row.specs.code.LayoutView.{layout_columns}
use Rattle.blog_row.specs.code.RowsView.{rows_left}
use Rattle.blog_untouched.specs.Steps.{taken_of}
use Rattle.blog_untouched.proofs.record.put_taken_rows.Goals as goal

pub loop-row-init : goal.loop-row-init
loop-row-init g c =
    let group = c.args.group.now in
    let rows = ap (λ rows. images_changes (map_names group.table).table (layout_columns group.rows.layout) (rows_left rows)) c.into_iter-row-iterator.ensures.into_iter_gives
    ∙ ap (images_changes (map_names group.table).table (layout_columns group.rows.layout)) c.rows-row-items.ensures.rows in
    record { next = tt; finite = tt; put = ap (λ cs. c.args.taken.now.items ++ taken_of c.args.before (left_before c.args.left.now c.args.lists).rows cs) (rows ∙ sym (seen-changed group c.requires)) }
