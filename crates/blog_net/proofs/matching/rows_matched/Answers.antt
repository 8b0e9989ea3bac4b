use Rattle.std.proofs.Common.{◌+◌, [], ◌∷◌, drop, map, ap, arith}
use Rattle.blog_row.specs.code.RowsView.{row_seen, rows_left}
use Rattle.blog_trans.specs.code.GroupEventsView.{event_seen}
use Rattle.blog_trans.specs.declared.group_events.GroupEvent.TheVariants as given
use Rattle.blog_net.specs.code.RowBytes.{event_rows, row_bytes}
use Rattle.blog_net.proofs.InTurn.{matched-more, matched-other}
use Rattle.blog_net.proofs.matching.rows_matched.Goals as goal

pub loop-row-preserved : goal.loop-row-preserved
loop-row-preserved c =
    let us = c.args.updates.now in
    let body = c.args.group.now.map.body.now in
    let within = c.is_row_at.ensures.within c.if-not-is_row_at.false in
    record {
      next = tt;
      finite = tt;
      rows = matched-more us (drop c.loop-row.many us) (drop (c.loop-row.many + 1) us) (event_rows (event_seen (given.Rows c.args.group.now))) (map (row_bytes body) (rows_left c.loop-row.row-iterator))
          (row_bytes body (row_seen c.in-Some.row) ∷ []) (map (row_bytes body) (rows_left c.next.new.self)) (ap (map (row_bytes body)) c.in-Some.ensures.steps) c.if-not-is_row_at.ensures.row c.loop-row.invariant.rows;
      within = omega (arith, within);
    }

pub returns-then-not-is_row_at-clause-rows : goal.returns-then-not-is_row_at-clause-rows
returns-then-not-is_row_at-clause-rows c =
    let us = c.args.updates.now in
    let body = c.args.group.now.map.body.now in
    matched-other us (drop c.loop-row.many us) (event_rows (event_seen (given.Rows c.args.group.now))) (map (row_bytes body) (rows_left c.loop-row.row-iterator))
    (row_bytes body (row_seen c.in-Some.row) ∷ []) (map (row_bytes body) (rows_left c.next.new.self)) (ap (map (row_bytes body)) c.in-Some.ensures.steps) c.if-not-is_row_at.ensures.row c.loop-row.invariant.rows
