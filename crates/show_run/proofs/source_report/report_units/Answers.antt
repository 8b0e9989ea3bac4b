use Rattle.std.proofs.Common.{◌+◌, ℕ, List, length, map, sym, ap, ◌∙◌}
use Rattle.std.specs.Prelude.{if◌then◌else◌}
use Rattle.blog_choice.specs.code.Views.{choice_value}
use Rattle.blog_event.specs.code.LogView.{log_bytes}
use Rattle.blog_list.specs.Shown.{wanted_of as wanted_among}
use Rattle.blog_list.specs.code.Told.{source_place}
use Rattle.blog_report.specs.Sums.{at_most}
use Rattle.blog_report.specs.code.ReportView.{said_of}
use Rattle.blog_units.specs.Units.{Facts, facts_of, units}
use Rattle.blog_units.specs.code.UnitsView.{facts_told, units_left}
use Rattle.show_run.specs.Reported.{with_units}
use Rattle.show_run.proofs.Ending.{ending, ending-all, ending-more, ending-stopped}
use Rattle.show_run.proofs.Reporting.{count-end, count-first, fits-most, none-wanted, none-yet, units-first, zero-most}
use Rattle.show_run.proofs.source_report.report_units.Goals as goal

pub loop-unit-init : goal.loop-unit-init
loop-unit-init g c =
    let log : List ℕ = log_bytes c.args.log.now in
    let all = ap units_left c.into_iter-unit-iterator.ensures.into_iter_gives ∙ c.new-unit-items.ensures.units in
    record {
      ends = ending-all c.args.wanted.now.stop (map facts_of (units log)) _ all;
      next = tt;
      finite = tt;
      same = ap (λ units. units.log) c.into_iter-unit-iterator.ensures.into_iter_gives ∙ c.new-unit-items.ensures.log;
      is = ap (λ (us : List Facts). with_units c.args.number (source_place c.args.source.now) log (choice_value c.args.wanted.now.choice) (wanted_among c.args.wanted.now log us) (said_of c.args.report.now)) all;
      adds_up = λ w. w;
      count = none-yet _ ∙ ap (λ (us : List Facts). at_most (length (wanted_among c.args.wanted.now log us))) all;
      fits = sym zero-most;
    }

pub returns-then-not-is_before-clause-said : goal.returns-then-not-is_before-clause-said
returns-then-not-is_before-clause-said g c =
    let log : List ℕ = log_bytes c.args.log.now in
    let none = none-wanted c.args.wanted.now log (facts_told c.in-Some.unit) _ _ c.in-Some.ensures.steps.first (sym c.is_before.ensures ∙ c.if-not-is_before.true) in record {
      is = sym (ap (λ (us : List Facts). with_units c.args.number (source_place c.args.source.now) log (choice_value c.args.wanted.now.choice) us (said_of c.loop-unit.report)) none) ∙ c.loop-unit.invariant.is;
      whole = c.loop-unit.invariant.adds_up;
    }

pub returns-then-not-is_before-clause-units : goal.returns-then-not-is_before-clause-units
returns-then-not-is_before-clause-units g c =
    let log : List ℕ = log_bytes c.args.log.now in
    let none = none-wanted c.args.wanted.now log (facts_told c.in-Some.unit) _ _ c.in-Some.ensures.steps.first (sym c.is_before.ensures ∙ c.if-not-is_before.true) in
    count-end _ c.loop-unit.units _ c.loop-unit.invariant.fits c.loop-unit.invariant.count none

pub returns-then-not-is_before-clause-end : goal.returns-then-not-is_before-clause-end
returns-then-not-is_before-clause-end g c =
    sym (ending-stopped c.loop-unit.whole c.args.wanted.now.stop (facts_told c.in-Some.unit) _ _ c.in-Some.ensures.steps.first (sym c.is_before.ensures ∙ c.if-not-is_before.true)) ∙ c.loop-unit.invariant.ends

pub loop-unit-preserved : goal.loop-unit-preserved
loop-unit-preserved g c =
    let log : List ℕ = log_bytes c.args.log.now in
    let first = c.in-Some.ensures.steps.first in
    let before = sym c.is_before.ensures ∙ c.if-not-is_before.false in
    record {
      ends = sym (ending-more c.loop-unit.whole c.args.wanted.now.stop (facts_told c.in-Some.unit) _ _ first before) ∙ c.loop-unit.invariant.ends;
      next = tt;
      finite = tt;
      same = c.in-Some.ensures.steps.log ∙ c.loop-unit.invariant.same;
      is = ap (with_units c.args.number (source_place c.args.source.now) log (choice_value c.args.wanted.now.choice) (wanted_among c.args.wanted.now log (units_left c.next.new.self))) c.in_ok-is_added.ensures.said.is
          ∙ sym (units-first c.args.wanted.now c.args.number (source_place c.args.source.now) log (choice_value c.args.wanted.now.choice) (facts_told c.in-Some.unit) _ _ (said_of c.loop-unit.report) first before)
          ∙ c.loop-unit.invariant.is;
      adds_up = λ w. c.in_ok-is_added.ensures.said.whole (c.loop-unit.invariant.adds_up w);
      count = count-first c.args.wanted.now log (facts_told c.in-Some.unit) _ _ c.in_ok-is_added.is_added c.loop-unit.units c.counted-units.result _ first before c.in_ok-is_added.ensures.told c.counted-units.ensures
          c.loop-unit.invariant.count;
      fits = fits-most c.counted-units.result (c.loop-unit.units + (if c.in_ok-is_added.is_added then 1 else 0)) c.counted-units.ensures;
    }

pub returns-clause-said : goal.returns-clause-said
returns-clause-said g c =
    let log : List ℕ = log_bytes c.args.log.now in
    let none = ap (wanted_among c.args.wanted.now log) c.in-None.ensures.steps.first.0 in record {
      is = sym (ap (λ (us : List Facts). with_units c.args.number (source_place c.args.source.now) log (choice_value c.args.wanted.now.choice) us (said_of c.loop-unit.report)) none) ∙ c.loop-unit.invariant.is;
      whole = c.loop-unit.invariant.adds_up;
    }

pub returns-clause-units : goal.returns-clause-units
returns-clause-units g c =
    let log : List ℕ = log_bytes c.args.log.now in
    let none = ap (wanted_among c.args.wanted.now log) c.in-None.ensures.steps.first.0 in
    count-end _ c.loop-unit.units _ c.loop-unit.invariant.fits c.loop-unit.invariant.count none

pub returns-clause-end : goal.returns-clause-end
returns-clause-end g c = sym (ap (ending c.loop-unit.whole c.args.wanted.now.stop) c.in-None.ensures.steps.first.0) ∙ c.loop-unit.invariant.ends
