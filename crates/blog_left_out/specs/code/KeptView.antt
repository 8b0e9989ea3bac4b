-- What a contract sees of the rows that stay of an event.
use Rattle.std.specs.Prelude.{◌≡◌, ◌≤◌, Bool, List, drop, length}
use Rattle.blog_row.specs.RowsWriting.{RowsContent}
use Rattle.blog_left_out.specs.LeftOut.{content_rows, stays}
use Rattle.blog_left_out.specs.declared.kept_rows.KeptRows.{KeptRows}

-- whether it stays, and how many marks it takes
pub record IsKept (ms : List Bool) (c : RowsContent) (own : KeptRows) : Type 0 where
  pub stays_is : own.stays ≡ stays ms c
  pub left : drop own.used ms ≡ drop (length (content_rows c)) ms
  pub within : own.used ≤ length ms
