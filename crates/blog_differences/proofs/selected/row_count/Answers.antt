use Rattle.std.proofs.lemmas.Iterator.Consumers.{YieldsList-from_first, count_from_yields_List}
use Rattle.blog_pairs.specs.code.EventRows.{event_rows}
use Rattle.blog_row.specs.code.RowsView.{row_seen, rows_left}
use Rattle.blog_differences.proofs.selected.row_count.Goals as goal

pub returns : goal.returns
returns c = count_from_yields_List c.rows.result _ c.count.ensures.ran (YieldsList-from_first row_seen rows_left (event_rows c.args.rows.now) c.rows.ensures.rows)
