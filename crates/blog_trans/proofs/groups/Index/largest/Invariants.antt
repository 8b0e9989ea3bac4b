use Rattle.std.proofs.Common.{◌≡◌, drop}
use Rattle.blog_trans.specs.code.IndexView.{index_bytes, index_selection}
use Rattle.blog_trans.specs.Shown.{largest, shown}
use Rattle.blog_trans.proofs.groups.Index.largest.Given as goal

-- the greatest of those that are left, or the most so far, is the greatest of all
abbrev pub invariant-loop-n : goal.invariant-loop-n
invariant-loop-n g l =
    largest l.most (drop l.n (shown (index_bytes l.self) (index_selection l.self))) ≡ largest l.fn.least (shown (index_bytes l.self) (index_selection l.self))
