use Rattle.std.proofs.Common.{refl}
use Rattle.blog_trans.specs.declared.group_events.Turn.TheVariants as turn
use Rattle.blog_trans.proofs.Turns.{taken-is}
use Rattle.blog_trans.proofs.group_events.GroupEventsIterator.next.Goals as goal

pub returns-in_err-n-clause-steps : goal.returns-in_err-n-clause-steps
returns-in_err-n-clause-steps g c = rw (c.from_residual.ensures) (record { first = c.in_err-n.ensures; whole = tt })

pub returns-in-Begin-clause-steps : goal.returns-in-Begin-clause-steps
returns-in-Begin-clause-steps g c =
    let taken = c.in_ok-n.ensures in
    let (p, of, is) = taken-is c.args.self.now c.turn.new.self c.in_ok-n.field-0 (turn.Begin c.in-Begin.n) taken c.in-Begin.is in
    record { first = rw (taken.first, is, c.event.ensures.event p of) refl; whole = c.event.ensures.size }

pub returns-in-Map-clause-steps : goal.returns-in-Map-clause-steps
returns-in-Map-clause-steps g c =
    let taken = c.in_ok-n.ensures in
    let (p, of, is) = taken-is c.args.self.now c.turn.new.self c.in_ok-n.field-0 (turn.Map c.in-Map.n) taken c.in-Map.is in
    record { first = rw (taken.first, is, c.event-in-Map.ensures.event p of) refl; whole = c.event-in-Map.ensures.size }

pub returns-in-Rows-clause-steps : goal.returns-in-Rows-clause-steps
returns-in-Rows-clause-steps g c =
    let taken = c.in_ok-n.ensures in
    let (r, of, is) = taken-is c.args.self.now c.turn.new.self c.in_ok-n.field-0 (turn.Rows c.in-Rows.n c.in-Rows.last) taken c.in-Rows.is in
    record { first = rw (taken.first, is, c.rows.ensures.rows r of, c.rows.ensures.left) refl; whole = c.rows.ensures.whole }

pub returns-in-End-clause-steps : goal.returns-in-End-clause-steps
returns-in-End-clause-steps g c =
    let taken = c.in_ok-n.ensures in
    let (p, of, is) = taken-is c.args.self.now c.turn.new.self c.in_ok-n.field-0 (turn.End c.in-End.n) taken c.in-End.is in
    record { first = rw (taken.first, is, c.event-in-End.ensures.event p of) refl; whole = c.event-in-End.ensures.size }
