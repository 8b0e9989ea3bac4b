use Rattle.blog_trans.specs.Groups.{PlacedStatement}
use Rattle.blog_trans.specs.code.IndexView.{index_groups, statement_at}
use Rattle.log_calls.proofs.Numbered.{some-over}
use Rattle.log_calls.proofs.index_view.show_statement.Goals as goal

pub map-requires : goal.map-requires
map-requires c = some-over (λ (x : PlacedStatement). x.maps) (statement_at (index_groups c.args.index.now) c.args.t c.args.s) c.maps-m-end.result c.loop-m.m c.maps-m-end.ensures c.loop-m-test.true

pub rows_event-requires : goal.rows_event-requires
rows_event-requires c = some-over (λ (x : PlacedStatement). x.rows) (statement_at (index_groups c.args.index.now) c.args.t c.args.s) c.rows-r-end.result c.loop-r.r c.rows-r-end.ensures c.loop-r-test.true
