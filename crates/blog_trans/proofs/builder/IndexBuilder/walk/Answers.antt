use Rattle.std.proofs.Common.{◌≡◌, ◌∙◌, ◌∷◌, ◌&&◌, ◌==◌, not, None, true, false, ◌+◌, ℕ, ap, sym, subst, length, arith, inl, inr, Some, drop, option_map}
use Rattle.std.proofs.lemmas.Result.{err_from_is_err_and}
use Rattle.blog_event.specs.Event.{event_of, event_at, event_size}
use Rattle.blog_event.specs.File.{Placed, is_below}
use Rattle.blog_event.specs.code.LogView.{log_bytes}
use Rattle.blog_event.proofs.Opened.{log-reads}
use Rattle.blog_trans.specs.Selection.{selection_of}
use Rattle.blog_trans.specs.Acceptance.{range, read_fault, IsRefusal}
use Rattle.blog_trans.specs.code.BuilderView.{HasTaken, placed}
use Rattle.blog_trans.proofs.WalkCode.{within-more, below-the-end, at-the-end, none-at-end, left-reached, reached-inside, left-on, left-refused, left-cut, left-over}
use Rattle.blog_trans.proofs.builder.IndexBuilder.walk.Goals as goal

pub events-init : goal.events-init
events-init g c =
    let bytes = log_bytes c.args.log.now in
    let sel = selection_of c.args.sel.now in
    let reached = c.requires.reached in
    let inside = reached-inside bytes sel c.args.from reached in
    let reads = log-reads c.args.log.now c.args.sel.now.stop (4 + event_size reached.first) (ap (option_map (λ e. 4 + event_size e)) reached.stands) in
    record {
      left = left-reached c.args.self.now bytes sel c.args.from reached reads c.requires.walks;
      behind = inside.behind;
      inside = inside.within;
      few = within-more c.args.self.now 0 c.args.from (omega arith) c.requires.begins;
    }

pub returns-in_default : goal.returns-in_default
returns-in_default g c =
    let sel = selection_of c.args.sel.now in
    let below : is_below c.events.at sel.stop ≡ true = sym c.is_below.ensures ∙ c.events-test.true in
    record { through = inr (left-cut (log_bytes c.args.log.now) sel c.events.at c.events.self c.events.invariant.left (inr (sym c.in_default.ensures.event)) (below-the-end _ _ below (λ e. omega (arith, e, c.if-at-end.true, c.end.ensures.len)))) }

pub returns-in_err-read : goal.returns-in_err-read
returns-in_err-read g c =
    let sel = selection_of c.args.sel.now in
    let l = c.events.invariant.left in
    let e = event_of c.in-Ok.event in
    let below : is_below c.events.at sel.stop ≡ true = sym c.is_below.ensures ∙ c.events-test.true in
    let at : placed c.in-Ok.event ≡ record { pos = c.events.at; event = e } = ap (λ (n : ℕ). record { pos = n; event = e }) c.in-Ok.ensures.pos in
    let exit = err_from_is_err_and c.from_residual.result c.from_residual.ensures.1 in
    rw (exit.1, exit.2) (record {
      through = left-refused (log_bytes c.args.log.now) sel c.events.at c.events.self l e below (sym c.in-Ok.ensures.event) c.in_err-read.field-0.0
          (subst (λ (p : Placed). IsRefusal (read_fault sel l.earlier p) c.in_err-read.field-0.0) at (c.in_err-read.ensures.walks l.earlier l.walks));
    })

pub events-preserved : goal.events-preserved
events-preserved g c =
    let sel = selection_of c.args.sel.now in
    let bytes = log_bytes c.args.log.now in
    let l = c.events.invariant.left in
    let e = event_of c.in-Ok.event in
    let below : is_below c.events.at sel.stop ≡ true = sym c.is_below.ensures ∙ c.events-test.true in
    let stands : event_at (drop c.events.at bytes) ≡ Some e = sym c.in-Ok.ensures.event in
    let at : placed c.in-Ok.event ≡ record { pos = c.events.at; event = e } = ap (λ (n : ℕ). record { pos = n; event = e }) c.in-Ok.ensures.pos in
    let read = c.in_ok-read.ensures.walks l.earlier l.walks in
    record {
      left = left-on bytes sel c.events.at c.events.self l e below stands c.read.new.self _ (ap (λ (n : ℕ). c.events.at + n) (sym c.in-Ok.ensures.size))
          (ap (read_fault sel l.earlier) (sym at) ∙ read.0) (subst (λ (p : Placed). HasTaken sel (range sel (p ∷ l.earlier)) c.read.new.self) at read.1);
      behind = omega (arith, c.events.invariant.behind);
      inside = c.in-Ok.ensures.within;
      few = within-more c.read.new.self _ _ (omega (arith, c.in-Ok.ensures.pos, c.in-Ok.ensures.size)) c.in_ok-read.ensures.within;
    }

pub returns-else-at-end : goal.returns-else-at-end
returns-else-at-end g c =
    let sel = selection_of c.args.sel.now in
    let bytes = log_bytes c.args.log.now in
    let here : c.events.at ≡ length bytes = omega (arith, c.if-at-end.false, c.end.ensures.len) in
    let none : event_at (drop c.events.at bytes) ≡ None = none-at-end bytes c.events.at here in
    record { through = left-over bytes sel c.events.at c.events.self c.events.invariant.left (inr none) (at-the-end _ _ _ here) }

pub returns-after-events : goal.returns-after-events
returns-after-events g c =
    let sel = selection_of c.args.sel.now in
    let above : is_below c.events.at sel.stop ≡ false = sym c.is_below.ensures ∙ c.events-test.false in
    record { through = left-over (log_bytes c.args.log.now) sel c.events.at c.events.self c.events.invariant.left (inl above) (ap (λ b. b && not (c.events.at == length (log_bytes c.args.log.now))) above) }
