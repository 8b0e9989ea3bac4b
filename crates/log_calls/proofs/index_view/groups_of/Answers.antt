use Rattle.blog_trans.specs.Groups.{PlacedTransaction}
use Rattle.log_calls.proofs.Numbered.{some-over}
use Rattle.log_calls.proofs.index_view.groups_of.Goals as goal

pub show_statement-requires : goal.show_statement-requires
show_statement-requires g c = some-over (λ (x : PlacedTransaction). x.statements) _ c.statements-s-end.result c.loop-s.s c.statements-s-end.ensures c.loop-s-test.true
