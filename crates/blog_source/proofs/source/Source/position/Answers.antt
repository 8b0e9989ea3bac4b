-- By the log_pos of each event.
use Rattle.std.proofs.Common.{◌≡◌, ℕ, List, drop, length, true, false, ◌∙◌, ap, sym, arith}
use Rattle.std.specs.Prelude.{nat_le}
use Rattle.std.proofs.lemmas.Bool.Decides.{nat_tests}
use Rattle.blog_event.specs.Event.{Event, event_at, event_of}
use Rattle.blog_source.specs.code.SourceView.{log_of}
use Rattle.blog_source.proofs.Placing.{position-first, position-here, position-later, position-none}
use Rattle.blog_source.proofs.source.Source.position.Goals as goal

pub events-init : goal.events-init
events-init g c = position-first (log_of c.args.self.now) c.args.place c.first-at.result c.first-at.ensures c.if-place-at.false

pub returns-then-place-event : goal.returns-then-place-event
returns-then-place-event g c =
    let e : Event = event_of c.in-Some.event in
    let here : nat_le c.args.place e.log_pos ≡ true = grind (arith, nat_tests, c.if-place-event.true) in
    let stands = ap (λ (log : List ℕ). event_at (drop c.events.at log)) (sym c.bytes.ensures) ∙ sym c.in-Some.ensures.event in
    sym (position-here (log_of c.args.self.now) c.args.place c.events.at e stands here) ∙ c.events.invariant

pub events-preserved : goal.events-preserved
events-preserved g c =
    let e : Event = event_of c.in-Some.event in
    let before : nat_le c.args.place e.log_pos ≡ false = grind (arith, nat_tests, c.if-place-event.false) in
    let stands = ap (λ (log : List ℕ). event_at (drop c.events.at log)) (sym c.bytes.ensures) ∙ sym c.in-Some.ensures.event in
    sym (position-later (log_of c.args.self.now) c.args.place c.events.at c.in-Some.event.header.size e stands c.in-Some.ensures.size before) ∙ c.events.invariant

pub returns : goal.returns
returns g c =
    let none = ap (λ (log : List ℕ). event_at (drop c.events.at log)) (sym c.bytes.ensures) ∙ sym c.in_default.ensures.event in
    let whole : c.len.result ≡ length (log_of c.args.self.now) = omega (arith, c.len.ensures) in
    whole ∙ sym (position-none (log_of c.args.self.now) c.args.place c.events.at none) ∙ c.events.invariant
