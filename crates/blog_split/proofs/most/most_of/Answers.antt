use Rattle.std.proofs.Common.{◌≡◌, ℕ, Some, arith}
use Rattle.blog_trans.specs.Groups.{PlacedStatement}
use Rattle.blog_trans.specs.code.IndexView.{index_groups, statement_at}
use Rattle.blog_trans.proofs.IndexFacts.{below}
use Rattle.blog_split.specs.code.Sizes.{IsAmongMost}
use Rattle.blog_split.proofs.Measuring.{among-more, below-next, some-from}
use Rattle.blog_split.proofs.most.most_of.Goals as goal

pub transactions-preserved : goal.transactions-preserved
transactions-preserved g c =
    let ts = index_groups c.args.index.now in
    record {
      each = λ t s y less is.
          below-next (λ (k : ℕ). (s : ℕ) (y : PlacedStatement) → statement_at ts k s ≡ Some y → IsAmongMost c.most_in-most.result y) c.transactions.t
          (λ k under s y at. among-more c.transactions.most c.most_in-most.result y c.most_in-most.ensures.maps c.most_in-most.ensures.rows (c.transactions.invariant.each k s y under at))
          (λ s y at. c.most_in-most.ensures.each s y at) t less s y is;
    }

pub returns : goal.returns
returns g c t s y is =
    let within = below c.args.index.now t s (some-from (statement_at (index_groups c.args.index.now) t s) y is) in
    c.transactions.invariant.each t s y (omega (arith, within, c.transactions-transactions.ensures, c.transactions-test.false)) is
