use Rattle.std.proofs.Common.{List, ℕ}
use Rattle.blog_row.specs.RowsEvent.{rows_by}
use Rattle.blog_row.specs.code.RowsEventView.{rows_body, rows_kind}
use Rattle.blog_row.specs.code.RowsView.{rows_left}
use Rattle.blog_show.specs.Shown.{ShowsRows}
use Rattle.blog_show.proofs.lines.put_lines.Given as goal

-- what shows the rows that the iterator still gives ends what shows all
abbrev pub invariant-loop-row : goal.invariant-loop-row
invariant-loop-row g l = record {
  next : (goal.iterator-loop-row g).can_next l.row-iterator;
  finite : (goal.iterator-loop-row g).is_finite l.row-iterator;
  shown : (new : List ℕ) → ShowsRows l.style.form l.place (rows_left l.row-iterator) l.out.items new
      → ShowsRows l.style.form l.place (rows_by (rows_kind l.group.rows).action (rows_body l.group.rows).images) l.fn.out.items new;
}
