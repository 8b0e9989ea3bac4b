use Rattle.std.proofs.Common.{◌≡◌, drop}
use Rattle.std.specs.List.{list_any}
use Rattle.blog_text.specs.code.Counted.{counts_in}
use Rattle.blog_trans.specs.Changes.{TableCount}
use Rattle.undo_run.specs.Reports.{has_followers, turned}
use Rattle.undo_run.proofs.reports.has_any_followers.Given as goal

-- one of those that are left has rows that are updated or deleted where one of all has
abbrev pub invariant-loop-n : goal.invariant-loop-n
invariant-loop-n g l =
    list_any (λ (c : TableCount). has_followers (turned l.order c)) (drop l.n (counts_in l.index))
    ≡ list_any (λ (c : TableCount). has_followers (turned l.order c)) (counts_in l.index)
