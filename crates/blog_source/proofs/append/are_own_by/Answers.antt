-- By each event.
use Rattle.std.proofs.Common.{◌∙◌, sym, refl}
use Rattle.blog_event.specs.Event.{event_of}
use Rattle.blog_source.proofs.Ages.{by-more, by-none, by-other}
use Rattle.blog_source.proofs.append.are_own_by.Goals as goal

pub events-init : goal.events-init
events-init c = refl

pub returns-then-not-is_own_by : goal.returns-then-not-is_own_by
returns-then-not-is_own_by c =
    sym (by-other c.args.log.now c.args.server c.args.time c.events.at (event_of c.in-Some.event) (sym c.in-Some.ensures.event) (sym c.is_own_by.ensures ∙ c.if-not-is_own_by.true)) ∙ c.events.invariant

pub events-preserved : goal.events-preserved
events-preserved c =
    sym (by-more c.args.log.now c.args.server c.args.time c.events.at c.in-Some.event.header.size (event_of c.in-Some.event) (sym c.in-Some.ensures.event) c.in-Some.ensures.size (sym c.is_own_by.ensures ∙ c.if-not-is_own_by.false)) ∙ c.events.invariant

pub returns : goal.returns
returns c = sym (by-none c.args.log.now c.args.server c.args.time c.events.at (sym c.in_default.ensures.event)) ∙ c.events.invariant
