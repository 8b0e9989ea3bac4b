use Rattle.std.proofs.Common.{Bool, ◌+◌, sym, ◌∙◌, arith}
use Rattle.blog_event.specs.code.LogView.{log_bytes}
use Rattle.blog_event.specs.File.{Placed}
use Rattle.blog_trans.specs.Places.{kind_at, placed}
use Rattle.blog_choice.specs.Choice.{Choice}
use Rattle.blog_choice.specs.code.ChosenView.{names_choice}
use Rattle.blog_request.specs.Passing.{leaves_alone, unit_events}
use Rattle.blog_request.proofs.Ranges.{all-more, all-none, all-this, first-of, none-below, none-there}
use Rattle.blog_request.proofs.passing.all_leave_alone.Goals as goal

abbrev leaves : Choice → Bool → Placed → Bool
leaves choice inside p = leaves_alone choice inside (kind_at p) p.event

pub events-preserved : goal.events-preserved
events-preserved g c =
    let bytes = log_bytes c.args.log.now in
    let e = c.in-Ok.event in
    all-more (leaves (names_choice c.args.names.now) c.args.inside) (unit_events bytes c.events.at c.args.stop) (placed e) (unit_events bytes (c.events.at + e.header.size) c.args.stop) _ c.events.invariant
    (first-of bytes c.args.stop c.events.at e c.events-test.true (sym c.in-Ok.ensures.event) c.in-Ok.ensures.pos c.in-Ok.ensures.size) (sym c.leaves_alone.ensures ∙ c.if-not-leaves_alone.false)

pub returns-then-not-leaves_alone : goal.returns-then-not-leaves_alone
returns-then-not-leaves_alone g c =
    let bytes = log_bytes c.args.log.now in
    let e = c.in-Ok.event in
    all-this (leaves (names_choice c.args.names.now) c.args.inside) (unit_events bytes c.events.at c.args.stop) (placed e) (unit_events bytes (c.events.at + e.header.size) c.args.stop) _ c.events.invariant
    (first-of bytes c.args.stop c.events.at e c.events-test.true (sym c.in-Ok.ensures.event) c.in-Ok.ensures.pos c.in-Ok.ensures.size) (sym c.leaves_alone.ensures ∙ c.if-not-leaves_alone.true)

pub returns-in_default : goal.returns-in_default
returns-in_default g c =
    let bytes = log_bytes c.args.log.now in
    all-none (leaves (names_choice c.args.names.now) c.args.inside) (unit_events bytes c.events.at c.args.stop) _ c.events.invariant (none-there bytes c.args.stop c.events.at (sym c.in_default.ensures.event))

pub returns : goal.returns
returns g c =
    let bytes = log_bytes c.args.log.now in
    all-none (leaves (names_choice c.args.names.now) c.args.inside) (unit_events bytes c.events.at c.args.stop) _ c.events.invariant (none-below bytes c.args.stop c.events.at (omega (arith, c.events-test.false)))
