use Rattle.std.proofs.Common.{◌≡◌, ◌++◌, drop}
use Rattle.std.specs.List.{flat_map}
use Rattle.blog_text.specs.code.Counted.{counts_in}
use Rattle.undo_run.specs.Reports.{next_told, rows_told}
use Rattle.undo_run.proofs.reports.put_rows.Given as goal

-- the tables are left from number n on
abbrev pub invariant-loop-n : goal.invariant-loop-n
invariant-loop-n g l =
    l.out.items ++ flat_map (next_told l.order) (drop l.n (counts_in l.index)) ≡ l.fn.out.items ++ rows_told l.order (counts_in l.index)
