use Rattle.std.proofs.Common.{◌++◌, ap, sym, ◌∙◌}
use Rattle.blog_row.specs.TableMap.{map_names}
use Rattle.blog_row.specs.code.LayoutView.{layout_columns}
use Rattle.blog_row.specs.code.RowsView.{rows_left}
use Rattle.blog_later.specs.Prints.{print_in, prints_left, table_print}
use Rattle.blog_later.specs.code.EventChanges.{images_changes}
use Rattle.blog_later.proofs.EventChanges.{seen-changed}
use Rattle.blog_later.proofs.leaving.put_rows.Goals as goal

pub loop-row-init : goal.loop-row-init
loop-row-init g c =
    let group = c.args.group.now in
    let rows = ap (λ rows. images_changes (map_names group.table).table (layout_columns group.rows.layout) (rows_left rows)) c.into_iter-row-iterator.ensures.into_iter_gives
    ∙ ap (images_changes (map_names group.table).table (layout_columns group.rows.layout)) c.rows-row-items.ensures.rows in
    let same = rows ∙ sym (seen-changed group c.requires) in
    record {
      next = tt;
      finite = tt;
      rows = ap (λ cs. c.args.rows.now.items ++ prints_left (print_in c.args.list) cs) same;
      tables = ap (λ cs. c.args.tables.now.items ++ prints_left (λ r. table_print r.table) cs) same;
    }
