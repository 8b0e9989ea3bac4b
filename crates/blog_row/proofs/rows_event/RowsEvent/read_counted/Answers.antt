use Rattle.blog_row.specs.code.LayoutView.{layout_columns}
use Rattle.blog_row.proofs.RowsCode.{some_columns, event_found}
use Rattle.blog_row.proofs.rows_event.RowsEvent.read_counted.Goals as goal

pub returns-clause-found : goal.returns-clause-found
returns-clause-found c = event_found c.args.kind (layout_columns c.args.layout.now) c.args.body.now c.at.result (some_columns c.args.layout.now) c.at.ensures.exact
