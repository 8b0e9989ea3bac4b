use Rattle.std.proofs.Common.{ℕ, List, map, sym, ap, subst, ◌∙◌}
use Rattle.blog_choice.specs.code.Views.{choice_value}
use Rattle.blog_device.specs.Watched.{device_of}
use Rattle.blog_event.specs.code.LogView.{log_bytes}
use Rattle.blog_list.specs.code.Told.{source_place}
use Rattle.blog_source.specs.Places.{position_of}
use Rattle.blog_source.specs.code.SourceView.{log_of}
use Rattle.blog_units.specs.Units.{Facts, facts_of, units}
use Rattle.blog_units.specs.code.UnitsView.{facts_told, units_left}
use Rattle.show_run.specs.Shown.{HasShown, shown_among}
use Rattle.show_run.proofs.Ending.{ending, ending-all, ending-more, ending-stopped}
use Rattle.show_run.proofs.Showing.{none-of, shown-first, shown-none}
use Rattle.show_run.proofs.source_rows.show_units.Goals as goal

pub loop-unit-init : goal.loop-unit-init
loop-unit-init g c =
    let log : List ℕ = log_bytes c.args.log.now in
    let ps : List ℕ = map (position_of (log_of c.args.source.now)) c.args.places.now in
    let all = ap units_left c.into_iter-unit-iterator.ensures.into_iter_gives ∙ c.new-unit-items.ensures.units in
    record {
      ends = ending-all c.args.wanted.now.stop (map facts_of (units log)) _ all;
      next = tt;
      finite = tt;
      same = ap (λ units. units.log) c.into_iter-unit-iterator.ensures.into_iter_gives ∙ c.new-unit-items.ensures.log;
      held = λ has new s.
          subst (λ (us : List Facts). HasShown c.args.style.now.form (choice_value c.args.wanted.now.choice) (source_place c.args.source.now) log (shown_among c.args.wanted.now ps log us) (g.W.Write.contents (device_of c.args.writer.now)) has c.args.page.now.text.items new) all s;
    }

pub returns-then-not-is_before-clause-shown : goal.returns-then-not-is_before-clause-shown
returns-then-not-is_before-clause-shown g c =
    let log : List ℕ = log_bytes c.args.log.now in
    let ps : List ℕ = map (position_of (log_of c.args.source.now)) c.args.places.now in
    let before = sym c.is_before.ensures ∙ c.if-not-is_before.true in
    let none = none-of c.args.wanted.now ps log (facts_told c.in-Some.unit) _ _ c.in-Some.ensures.steps.first before in
    c.loop-unit.invariant.held (g.W.Write.contents (device_of c.loop-unit.writer)) c.loop-unit.page.text.items
    (subst (λ (us : List Facts). HasShown c.args.style.now.form (choice_value c.args.wanted.now.choice) (source_place c.args.source.now) log us (g.W.Write.contents (device_of c.loop-unit.writer)) (g.W.Write.contents (device_of c.loop-unit.writer)) c.loop-unit.page.text.items c.loop-unit.page.text.items) (sym none)
    (shown-none c.args.style.now.form (choice_value c.args.wanted.now.choice) (source_place c.args.source.now) log (g.W.Write.contents (device_of c.loop-unit.writer)) c.loop-unit.page.text.items))

pub returns-then-not-is_before-clause-end : goal.returns-then-not-is_before-clause-end
returns-then-not-is_before-clause-end g c =
    sym (ending-stopped c.loop-unit.whole c.args.wanted.now.stop (facts_told c.in-Some.unit) _ _ c.in-Some.ensures.steps.first (sym c.is_before.ensures ∙ c.if-not-is_before.true)) ∙ c.loop-unit.invariant.ends

pub loop-unit-preserved : goal.loop-unit-preserved
loop-unit-preserved g c =
    let log : List ℕ = log_bytes c.args.log.now in
    let ps : List ℕ = map (position_of (log_of c.args.source.now)) c.args.places.now in
    record {
      ends = sym (ending-more c.loop-unit.whole c.args.wanted.now.stop (facts_told c.in-Some.unit) _ _ c.in-Some.ensures.steps.first (sym c.is_before.ensures ∙ c.if-not-is_before.false)) ∙ c.loop-unit.invariant.ends;
      next = tt;
      finite = tt;
      same = c.in-Some.ensures.steps.log ∙ c.loop-unit.invariant.same;
      held = λ has new s.
          c.loop-unit.invariant.held has new
          (shown-first c.args.wanted.now ps c.args.style.now.form (choice_value c.args.wanted.now.choice) (source_place c.args.source.now) log (facts_told c.in-Some.unit) _ _ _ _ has _ _ new
          c.in-Some.ensures.steps.first (sym c.is_before.ensures ∙ c.if-not-is_before.false) c.in_ok-is_shown.ensures.shown s);
    }

pub returns-clause-shown : goal.returns-clause-shown
returns-clause-shown g c =
    let log : List ℕ = log_bytes c.args.log.now in
    let ps : List ℕ = map (position_of (log_of c.args.source.now)) c.args.places.now in
    let none = ap (shown_among c.args.wanted.now ps log) c.in-None.ensures.steps.first.0 in
    c.loop-unit.invariant.held (g.W.Write.contents (device_of c.loop-unit.writer)) c.loop-unit.page.text.items
    (subst (λ (us : List Facts). HasShown c.args.style.now.form (choice_value c.args.wanted.now.choice) (source_place c.args.source.now) log us (g.W.Write.contents (device_of c.loop-unit.writer)) (g.W.Write.contents (device_of c.loop-unit.writer)) c.loop-unit.page.text.items c.loop-unit.page.text.items) (sym none)
    (shown-none c.args.style.now.form (choice_value c.args.wanted.now.choice) (source_place c.args.source.now) log (g.W.Write.contents (device_of c.loop-unit.writer)) c.loop-unit.page.text.items))

pub returns-clause-end : goal.returns-clause-end
returns-clause-end g c = sym (ap (ending c.loop-unit.whole c.args.wanted.now.stop) c.in-None.ensures.steps.first.0) ∙ c.loop-unit.invariant.ends
