use Rattle.blog_trans.specs.code.IndexView.{table_counted}
use Rattle.blog_text.proofs.Largest.{goes-on, stops}
use Rattle.blog_text.proofs.tables.place_in.Goals as goal

pub returns-then-rows_in-rows-clause-placed : goal.returns-then-rows_in-rows-clause-placed
returns-then-rows_in-rows-clause-placed c =
    stops table_counted c.args.largest.now c.place.i _ (table_counted c.args.count.now) _ _ c.place-test.true c.rows_in-rows.ensures c.rows_in.ensures c.if-rows_in-rows.true c.place.invariant

pub place-preserved : goal.place-preserved
place-preserved c =
    goes-on table_counted c.args.largest.now c.place.i _ (table_counted c.args.count.now) _ _ c.place-test.true c.rows_in-rows.ensures c.rows_in.ensures c.if-rows_in-rows.false c.place.invariant
