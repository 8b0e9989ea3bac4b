use Rattle.std.proofs.lemmas.Result.{err_from_is_err_and, on_ok_weaker, on_err_weaker}
use Rattle.blog_device.specs.Watched.{device_of}
use Rattle.blog_flash.specs.code.WrittenView.{rows_told}
use Rattle.blog_sql.specs.Changed.{changed_rows}
use Rattle.blog_sql.proofs.Walking.{of-three, rows-broken, last-prints, last-broken}
use Rattle.blog_sql.proofs.output.Output.put.Goals as goal

pub returns-in_err-put_event-in-Rows-clause-beginning : goal.returns-in_err-put_event-in-Rows-clause-beginning
returns-in_err-put_event-in-Rows-clause-beginning g c =
    let p = err_from_is_err_and c.from_residual.result c.from_residual.ensures.1 in
    let r = changed_rows c.args.how.now (rows_told c.in-Rows.rows) in
    rw (p.1, c.in-Rows.is) (rows-broken _ _ c.args.self.now r c.in-Rows.rows.last (rw c.in-Rows.is at c.in_err-put_event-in-Rows.ensures.beginning))

pub returns-then-rows-clause-prints : goal.returns-then-rows-clause-prints
returns-then-rows-clause-prints g c =
    let before = c.args.self.now in
    let middle = c.put_event-in-Rows.new.self in
    let has = g.W.Write.contents (device_of c.put_event-in-Rows.new.writer) in
    let now = g.W.Write.contents (device_of c.close.new.writer) in
    let r = changed_rows c.args.how.now (rows_told c.in-Rows.rows) in
    let inside = rw (c.in-Rows.is, c.if-rows.true) at c.in_ok-put_event-in-Rows.ensures.inside in
    let pos = rw (c.in-Rows.is, c.if-rows.true) at c.in_ok-put_event-in-Rows.ensures.pos in
    rw (c.in-Rows.is, c.if-rows.true)
    (of-three c.close.result c.close.ensures.adds c.close.ensures.open c.close.ensures.held
    (λ adds shut held. last-prints _ has now before middle c.close.new.self r inside pos adds shut held c.close.ensures.each c.close.ensures.inside c.close.ensures.pos))

pub returns-then-rows-clause-beginning : goal.returns-then-rows-clause-beginning
returns-then-rows-clause-beginning g c =
    let before = c.args.self.now in
    let middle = c.put_event-in-Rows.new.self in
    let has = g.W.Write.contents (device_of c.put_event-in-Rows.new.writer) in
    let now = g.W.Write.contents (device_of c.close.new.writer) in
    let r = changed_rows c.args.how.now (rows_told c.in-Rows.rows) in
    let inside = rw (c.in-Rows.is, c.if-rows.true) at c.in_ok-put_event-in-Rows.ensures.inside in
    rw (c.in-Rows.is, c.if-rows.true) (on_err_weaker c.close.result (λ broken. last-broken _ has now before middle c.close.new.self r inside broken) c.close.ensures.beginning)

pub returns-then-rows-clause-room : goal.returns-then-rows-clause-room
returns-then-rows-clause-room g c = on_ok_weaker c.close.result (λ room n h. room n (c.in_ok-put_event-in-Rows.ensures.room n h)) c.close.ensures.room

pub returns-in-Same-clause-beginning : goal.returns-in-Same-clause-beginning
returns-in-Same-clause-beginning g c = rw c.in-Same.is c.put_edge.ensures.beginning

pub returns-in-Map-clause-beginning : goal.returns-in-Map-clause-beginning
returns-in-Map-clause-beginning g c = rw c.in-Map.is (rw c.in-Map.is at c.put_event.ensures.beginning)
