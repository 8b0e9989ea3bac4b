-- By whether the event's bytes end in their sum.
use Rattle.std.proofs.Common.{◌+◌, true, false, sym, ◌∙◌, arith}
use Rattle.blog_event.specs.Event.{event_of}
use Rattle.blog_sum.proofs.Texts.{stands-text, own-sum}
use Rattle.blog_sum.proofs.Walk.{next-is}
use Rattle.blog_sum.proofs.sums.summed_event.Goals as goal

pub returns-then-not-ends_in_its_sum-clause-exact : goal.returns-then-not-ends_in_its_sum-clause-exact
returns-then-not-ends_in_its_sum-clause-exact c =
    let found = sym c.in-Some.ensures.event in
    let size = c.in-Some.ensures.size in
    let text = stands-text c.args.bytes.now c.args.at (c.args.at + c.in-Some.event.header.size) (event_of c.in-Some.event) (λ i. omega (arith, c.type_inv.bytes i)) found (omega arith) in
    sym (next-is c.args.bytes.now c.args.at (event_of c.in-Some.event) false found (omega arith) (own-sum (event_of c.in-Some.event) _ text ∙ sym c.if-not-ends_in_its_sum.ensures))

pub returns-clause-exact : goal.returns-clause-exact
returns-clause-exact c =
    let found = sym c.in-Some.ensures.event in
    let size = c.in-Some.ensures.size in
    let text = stands-text c.args.bytes.now c.args.at (c.args.at + c.in-Some.event.header.size) (event_of c.in-Some.event) (λ i. omega (arith, c.type_inv.bytes i)) found (omega arith) in
    sym (next-is c.args.bytes.now c.args.at (event_of c.in-Some.event) true found (omega arith) (own-sum (event_of c.in-Some.event) _ text ∙ sym c.if-not-ends_in_its_sum.ensures))
