use Rattle.std.proofs.Common.{Bool, ◌+◌, sym, ◌∙◌, arith}
use Rattle.blog_event.specs.code.LogView.{log_bytes}
use Rattle.blog_event.specs.File.{Placed}
use Rattle.blog_row.specs.Kinds.{is_begin_kind}
use Rattle.blog_trans.specs.Places.{kind_at, placed}
use Rattle.blog_request.specs.Passing.{unit_events}
use Rattle.blog_request.proofs.Ranges.{any-more, any-none, any-this, first-of, none-below, none-there}
use Rattle.blog_request.proofs.passing.has_begin.Goals as goal

abbrev begins : Placed → Bool
begins p = is_begin_kind (kind_at p)

pub events-preserved : goal.events-preserved
events-preserved c =
    let bytes = log_bytes c.args.log.now in
    let e = c.in-Ok.event in
    any-more begins (unit_events bytes c.events.at c.args.stop) (placed e) (unit_events bytes (c.events.at + e.header.size) c.args.stop) _ c.events.invariant
    (first-of bytes c.args.stop c.events.at e c.events-test.true (sym c.in-Ok.ensures.event) c.in-Ok.ensures.pos c.in-Ok.ensures.size) (sym c.is_begin.ensures ∙ c.if-is_begin.false)

pub returns-then-is_begin : goal.returns-then-is_begin
returns-then-is_begin c =
    let bytes = log_bytes c.args.log.now in
    let e = c.in-Ok.event in
    any-this begins (unit_events bytes c.events.at c.args.stop) (placed e) (unit_events bytes (c.events.at + e.header.size) c.args.stop) _ c.events.invariant
    (first-of bytes c.args.stop c.events.at e c.events-test.true (sym c.in-Ok.ensures.event) c.in-Ok.ensures.pos c.in-Ok.ensures.size) (sym c.is_begin.ensures ∙ c.if-is_begin.true)

pub returns-in_default : goal.returns-in_default
returns-in_default c =
    let bytes = log_bytes c.args.log.now in
    any-none begins (unit_events bytes c.events.at c.args.stop) _ c.events.invariant (none-there bytes c.args.stop c.events.at (sym c.in_default.ensures.event))

pub returns : goal.returns
returns c =
    let bytes = log_bytes c.args.log.now in
    any-none begins (unit_events bytes c.events.at c.args.stop) _ c.events.invariant (none-below bytes c.args.stop c.events.at (omega (arith, c.events-test.false)))
