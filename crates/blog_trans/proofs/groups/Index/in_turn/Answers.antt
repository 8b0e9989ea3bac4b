use Rattle.std.proofs.Common.{sym, ap}
use Rattle.std.specs.List.{flat_map}
use Rattle.blog_trans.specs.code.IndexView.{index_groups}
use Rattle.blog_trans.specs.code.InTurn.{in_order, in_turn, transaction_in_turn}
use Rattle.blog_trans.proofs.Turns.{all-among}
use Rattle.blog_trans.proofs.groups.Index.in_turn.Goals as goal

pub returns : goal.returns
unfolding in_turn
returns g c =
    ap (λ ts. flat_map (transaction_in_turn c.args.order) (in_order c.args.order ts)) (all-among (index_groups c.args.self.now) c.transactions.result (sym c.transactions.ensures))
