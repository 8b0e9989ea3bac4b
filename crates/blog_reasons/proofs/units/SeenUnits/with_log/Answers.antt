use Rattle.std.proofs.Common.{List, ◌++◌, map, sym, ap, ◌∙◌}
use Rattle.blog_event.specs.code.LogView.{log_bytes}
use Rattle.blog_units.specs.Units.{Facts, facts_of, units}
use Rattle.blog_units.specs.code.UnitsView.{facts_told, units_left}
use Rattle.blog_reasons.specs.Reasons.{units_in_range}
use Rattle.blog_reasons.specs.code.UnitsView.{range_of}
use Rattle.blog_reasons.proofs.SeenUnits.{is_inside, seeing-end, seeing-in, seeing-none, seeing-out}
use Rattle.blog_reasons.proofs.units.SeenUnits.with_log.Goals as goal

pub loop-unit-init : goal.loop-unit-init
loop-unit-init c = record {
  next = tt;
  finite = tt;
  seeing = λ us are. seeing-none c.args.wanted.now us (map facts_of (units (log_bytes c.args.log.now))) _ (is_inside c.args.range.now) _
      (ap units_left c.into_iter-unit-iterator.ensures.into_iter_gives ∙ c.new-unit-items.ensures.units) are;
}

pub loop-unit-preserved-then-has : goal.loop-unit-preserved-then-has
loop-unit-preserved-then-has c =
    let range = c.args.range.now in
    let all = λ (us : List Facts). us ++ units_in_range (range_of (log_bytes c.args.log.now) range) in
    record {
      next = tt;
      finite = tt;
      seeing = λ us are. seeing-in c.args.wanted.now (all us) (is_inside range) c.loop-unit.seen c.with-seen.result (facts_told c.in-Some.unit) (units_left c.loop-unit.unit-iterator) (units_left c.next.new.self)
          (c.loop-unit.invariant.seeing us are) c.in-Some.ensures.steps.first (sym c.has.ensures ∙ c.if-has.true) c.with-seen.ensures;
    }

pub loop-unit-preserved : goal.loop-unit-preserved
loop-unit-preserved c =
    let range = c.args.range.now in
    let all = λ (us : List Facts). us ++ units_in_range (range_of (log_bytes c.args.log.now) range) in
    record {
      next = tt;
      finite = tt;
      seeing = λ us are. seeing-out c.args.wanted.now (all us) (is_inside range) c.loop-unit.seen (facts_told c.in-Some.unit) (units_left c.loop-unit.unit-iterator) (units_left c.next.new.self)
          (c.loop-unit.invariant.seeing us are) c.in-Some.ensures.steps.first (sym c.has.ensures ∙ c.if-has.false);
    }

pub returns : goal.returns
returns c = λ us are. seeing-end c.args.wanted.now _ (is_inside c.args.range.now) _ _ (c.loop-unit.invariant.seeing us are) c.in-None.ensures.steps.first.0
