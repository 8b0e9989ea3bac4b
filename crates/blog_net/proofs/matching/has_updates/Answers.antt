use Rattle.std.proofs.Common.{ap, length, length-drop, arith}
use Rattle.std.proofs.lemmas.List.{take_rest}
use Rattle.blog_trans.specs.code.GroupEventsView.{event_seen, events_left}
use Rattle.blog_trans.specs.code.IndexView.{index_bytes, index_selection}
use Rattle.blog_net.specs.code.RowBytes.{event_rows, events_rows, log_rows}
use Rattle.blog_net.proofs.InTurn.{all-decides, matched-from, other-from, others-false}
use Rattle.blog_net.proofs.RowChanges.{net-changes}
use Rattle.blog_net.proofs.matching.has_updates.Goals as goal

pub loop-event-preserved : goal.loop-event-preserved
loop-event-preserved g c =
    let us = c.args.updates.now in
    record {
      next = tt;
      finite = tt;
      rows = matched-from us _ c.loop-event.at c.in-Some-matched.many (log_rows (index_bytes c.args.index.now) (index_selection c.args.index.now)) (events_rows (events_left c.loop-event.event-iterator))
          (event_rows (event_seen c.in-Some.event)) (events_rows (events_left c.next.new.self)) (take_rest us c.loop-event.at) (ap events_rows c.in-Some.ensures.steps.first) c.in-Some-matched.ensures.rows c.loop-event.invariant.rows;
      within = omega (arith, c.in-Some-matched.ensures.within, c.loop-event.invariant.within, ap length (take_rest us c.loop-event.at), length-drop c.loop-event.at us);
    }

pub returns-in-None-matched-clause-rows : goal.returns-in-None-matched-clause-rows
returns-in-None-matched-clause-rows g c =
    let us = c.args.updates.now in
    let rows = log_rows (index_bytes c.args.index.now) (index_selection c.args.index.now) in
    others-false us rows
    (other-from us _ c.loop-event.at rows (events_rows (events_left c.loop-event.event-iterator)) (event_rows (event_seen c.in-Some.event)) (events_rows (events_left c.next.new.self))
    (take_rest us c.loop-event.at) (ap events_rows c.in-Some.ensures.steps.first) c.in-None-matched.ensures.rows c.loop-event.invariant.rows)

pub returns-clause-rows : goal.returns-clause-rows
returns-clause-rows g c =
    all-decides c.args.updates.now c.loop-event.at (log_rows (index_bytes c.args.index.now) (index_selection c.args.index.now)) (events_rows (events_left c.loop-event.event-iterator))
    c.loop-event.invariant.within (ap events_rows c.in-None.ensures.steps.first.0) c.loop-event.invariant.rows

pub returns-clause-changes : goal.returns-clause-changes
returns-clause-changes g c = λ e. net-changes (index_bytes c.args.index.now) (index_selection c.args.index.now) c.args.updates.now ((returns-clause-rows g c).0 e)
