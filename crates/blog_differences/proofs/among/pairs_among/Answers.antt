use Rattle.std.proofs.Common.{map, sym, ap, ◌∙◌}
use Rattle.blog_event.specs.code.LogView.{log_bytes}
use Rattle.blog_pairs.specs.code.TableView.{pairs_told}
use Rattle.blog_trans.specs.Selection.{selection_of}
use Rattle.blog_units.specs.code.UnitsView.{facts_told, units_left}
use Rattle.blog_differences.proofs.Adding.{chosen_unit, other_unit, unit_before, units_none}
use Rattle.blog_differences.proofs.among.pairs_among.Goals as goal

-- a chosen unit
pub loop-unit-preserved-then-is_chosen : goal.loop-unit-preserved-then-is_chosen
loop-unit-preserved-then-is_chosen g c =
    let first = c.in-Some.ensures.steps.first in
    let here = ap log_bytes (c.in-Some.ensures.steps.of_log ∙ c.loop-unit.invariant.log) in
    record {
      next = tt;
      finite = tt;
      log = c.in-Some.ensures.steps.log ∙ c.loop-unit.invariant.log;
      chosen = λ p same. (c.first_mark-is_chosen.ensures (p (facts_told c.in-Some.unit)) (map p (units_left c.next.new.self)) (c.loop-unit.invariant.chosen p same ∙ ap (map p) first)).1;
      pairs = λ p same.
          let is = (c.first_mark-is_chosen.ensures (p (facts_told c.in-Some.unit)) (map p (units_left c.next.new.self)) (c.loop-unit.invariant.chosen p same ∙ ap (map p) first)).0 in
          chosen_unit p (selection_of c.args.inside.now) (log_bytes c.args.log.now) c.loop-unit.has_begun (facts_told c.in-Some.unit) _ _ c.loop-unit.left.now _ (pairs_told c.loop-unit.table) _ _
          first (sym is ∙ c.if-is_chosen.true) (rw here at c.in_ok-left.ensures.pairs) (rw here at c.in_ok-left.ensures.others) (c.loop-unit.invariant.pairs p same);
    }

-- one of others behind it
pub loop-unit-preserved-in-Continue-branch-2 : goal.loop-unit-preserved-in-Continue-branch-2
loop-unit-preserved-in-Continue-branch-2 g c =
    let first = c.in-Some.ensures.steps.first in
    let here = ap log_bytes (c.in-Some.ensures.steps.of_log ∙ c.loop-unit.invariant.log) in
    record {
      next = tt;
      finite = tt;
      log = c.in-Some.ensures.steps.log ∙ c.loop-unit.invariant.log;
      chosen = λ p same. (c.first_mark-is_chosen.ensures (p (facts_told c.in-Some.unit)) (map p (units_left c.next.new.self)) (c.loop-unit.invariant.chosen p same ∙ ap (map p) first)).1;
      pairs = λ p same.
          let is = (c.first_mark-is_chosen.ensures (p (facts_told c.in-Some.unit)) (map p (units_left c.next.new.self)) (c.loop-unit.invariant.chosen p same ∙ ap (map p) first)).0 in
          other_unit p (selection_of c.args.inside.now) (log_bytes c.args.log.now) c.loop-unit.has_begun (facts_told c.in-Some.unit) _ _ c.loop-unit.left.now (pairs_told c.loop-unit.table) _ _
          c.if-has_begun.true first (sym is ∙ c.if-is_chosen.false) (rw here at c.in_ok-add_other.ensures) (c.loop-unit.invariant.pairs p same);
    }

-- one before the first chosen one
pub loop-unit-preserved : goal.loop-unit-preserved
loop-unit-preserved g c =
    let first = c.in-Some.ensures.steps.first in
    record {
      next = tt;
      finite = tt;
      log = c.in-Some.ensures.steps.log ∙ c.loop-unit.invariant.log;
      chosen = λ p same. (c.first_mark-is_chosen.ensures (p (facts_told c.in-Some.unit)) (map p (units_left c.next.new.self)) (c.loop-unit.invariant.chosen p same ∙ ap (map p) first)).1;
      pairs = λ p same.
          let is = (c.first_mark-is_chosen.ensures (p (facts_told c.in-Some.unit)) (map p (units_left c.next.new.self)) (c.loop-unit.invariant.chosen p same ∙ ap (map p) first)).0 in
          unit_before p (selection_of c.args.inside.now) (log_bytes c.args.log.now) c.loop-unit.has_begun (facts_told c.in-Some.unit) _ _ c.loop-unit.left.now (pairs_told c.loop-unit.table) _
          c.if-has_begun.false first (sym is ∙ c.if-is_chosen.false) (c.loop-unit.invariant.pairs p same);
    }

pub returns : goal.returns
returns g c = λ p same.
    units_none p (selection_of c.args.inside.now) (log_bytes c.args.log.now) c.loop-unit.has_begun _ c.loop-unit.left.now (pairs_told c.loop-unit.table) _ c.in-None.ensures.steps.first.0 (c.loop-unit.invariant.pairs p same)
