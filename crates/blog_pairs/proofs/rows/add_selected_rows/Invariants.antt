use Rattle.std.proofs.Common.{◌≡◌, ℕ, List, length, true}
use Rattle.blog_later.specs.code.EventChanges.{images_changes}
use Rattle.blog_row.specs.code.RowsView.{rows_left}
use Rattle.blog_pairs.specs.Steps.{pairs_with, unmarked}
use Rattle.blog_pairs.specs.code.ColumnsView.{columns_told}
use Rattle.blog_pairs.specs.code.EventRows.{event_rows}
use Rattle.blog_pairs.specs.code.PairsView.{Fits, pairs_in, table_at}
use Rattle.blog_pairs.proofs.rows.add_selected_rows.Given as goal

-- the rows are left that the iterator still gives, each with its mark
abbrev pub invariant-loop-row : goal.invariant-loop-row
invariant-loop-row g l = record {
  next : (goal.iterator-loop-row g).can_next l.row-iterator;
  finite : (goal.iterator-loop-row g).is_finite l.row-iterator;
  each : length l.left ≡ length (rows_left l.row-iterator);
  fits : (bodies : List (List ℕ)) → Fits bodies l.fn.pairs l.table → Fits bodies l.pairs l.table;
  done : (bodies : List (List ℕ)) → Fits bodies l.fn.pairs l.table
      → pairs_with true (images_changes (table_at bodies l.table.number) (columns_told l.table.columns) (unmarked l.left (rows_left l.row-iterator))) (pairs_in bodies l.pairs.slots.items)
      ≡ pairs_with true (images_changes (table_at bodies l.table.number) (columns_told l.table.columns) (unmarked l.marks (event_rows l.rows))) (pairs_in bodies l.fn.pairs.slots.items);
}
