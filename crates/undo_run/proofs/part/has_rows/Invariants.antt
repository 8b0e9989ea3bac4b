use Rattle.std.proofs.Common.{◌≡◌, drop}
use Rattle.std.specs.Prelude.{nat_lt}
use Rattle.std.specs.List.{list_any}
use Rattle.blog_text.specs.Tables.{rows_in}
use Rattle.blog_text.specs.code.Counted.{counts_in}
use Rattle.blog_trans.specs.Changes.{TableCount}
use Rattle.undo_run.proofs.part.has_rows.Given as goal

-- one of those that are left has rows where one of all has
abbrev pub invariant-loop-n : goal.invariant-loop-n
invariant-loop-n g l =
    list_any (λ (c : TableCount). nat_lt 0 (rows_in c)) (drop l.n (counts_in l.index)) ≡ list_any (λ (c : TableCount). nat_lt 0 (rows_in c)) (counts_in l.index)
