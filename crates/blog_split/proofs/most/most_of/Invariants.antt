use Rattle.std.proofs.Common.{◌≡◌, ℕ, ◌-◌, ◌<◌, Some}
use Rattle.blog_trans.specs.Groups.{PlacedStatement}
use Rattle.blog_trans.specs.code.IndexView.{index_groups, statement_at}
use Rattle.blog_split.specs.code.Sizes.{IsAmongMost}
use Rattle.blog_split.proofs.most.most_of.Given as goal

-- none so far has more
abbrev pub invariant-transactions : goal.invariant-transactions
invariant-transactions g l = record {
  each : (t s : ℕ) (y : PlacedStatement) → t < l.t → statement_at (index_groups l.index) t s ≡ Some y → IsAmongMost l.most y;
}

abbrev pub decreases-transactions : goal.decreases-transactions
decreases-transactions g l = l.transactions - l.t
