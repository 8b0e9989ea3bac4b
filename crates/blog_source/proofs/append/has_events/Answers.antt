-- By each event.
use Rattle.std.proofs.Common.{◌∙◌, sym, refl}
use Rattle.blog_event.specs.Event.{event_of}
use Rattle.blog_source.proofs.Ages.{of-found, of-more, of-none}
use Rattle.blog_source.proofs.append.has_events.Goals as goal

pub events-init : goal.events-init
events-init c = refl

pub returns-then-is_of_log : goal.returns-then-is_of_log
returns-then-is_of_log c =
    sym (of-found c.args.log.now c.events.at (event_of c.in-Some.event) (sym c.in-Some.ensures.event) (sym c.is_of_log.ensures ∙ c.if-is_of_log.true)) ∙ c.events.invariant

pub events-preserved : goal.events-preserved
events-preserved c =
    sym (of-more c.args.log.now c.events.at c.in-Some.event.header.size (event_of c.in-Some.event) (sym c.in-Some.ensures.event) c.in-Some.ensures.size (sym c.is_of_log.ensures ∙ c.if-is_of_log.false)) ∙ c.events.invariant

pub returns : goal.returns
returns c = sym (of-none c.args.log.now c.events.at (sym c.in_default.ensures.event)) ∙ c.events.invariant
