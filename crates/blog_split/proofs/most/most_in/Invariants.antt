use Rattle.std.proofs.Common.{◌≡◌, ℕ, ◌-◌, ◌<◌, ◌≤◌, Some}
use Rattle.blog_trans.specs.Groups.{PlacedStatement}
use Rattle.blog_trans.specs.code.IndexView.{index_groups, statement_at}
use Rattle.blog_split.specs.code.Sizes.{IsAmongMost}
use Rattle.blog_split.proofs.most.most_in.Given as goal

-- none so far has more
abbrev pub invariant-statements : goal.invariant-statements
invariant-statements g l = record {
  maps : l.fn.least.maps ≤ l.most.maps;
  rows : l.fn.least.rows ≤ l.most.rows;
  each : (s : ℕ) (y : PlacedStatement) → s < l.s → statement_at (index_groups l.index) l.t s ≡ Some y → IsAmongMost l.most y;
}

abbrev pub decreases-statements : goal.decreases-statements
decreases-statements g l = l.statements - l.s
