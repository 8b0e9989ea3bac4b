use Rattle.std.proofs.Common.{false, map, sym, ap, ◌∙◌, append-nil}
use Rattle.blog_event.specs.code.LogView.{log_bytes}
use Rattle.blog_later.specs.Later.{unit_changes}
use Rattle.blog_units.specs.code.UnitsView.{facts_told, units_left}
use Rattle.blog_followed.specs.code.FollowedView.{kept_told}
use Rattle.blog_followed.proofs.Remaining.{remains-as, remains-on}
use Rattle.blog_followed.proofs.Waiting.{unit-before, unit-chosen, unit-other}
use Rattle.blog_followed.proofs.followed.Followed.follow_among.Goals as goal

-- a chosen unit
pub loop-unit-preserved-then-is_chosen : goal.loop-unit-preserved-then-is_chosen
loop-unit-preserved-then-is_chosen g c =
    let first = c.in-Some.ensures.steps.first in
    record {
      next = tt;
      finite = tt;
      log = c.in-Some.ensures.steps.log ∙ c.loop-unit.invariant.log;
      kept = c.loop-unit.invariant.kept;
      marked = λ p same. (c.first_mark-is_chosen.ensures (p (facts_told c.in-Some.unit)) (map p (units_left c.next.new.self)) (c.loop-unit.invariant.marked p same ∙ ap (map p) first)).1;
      remains = λ p same.
          let is = (c.first_mark-is_chosen.ensures (p (facts_told c.in-Some.unit)) (map p (units_left c.next.new.self)) (c.loop-unit.invariant.marked p same ∙ ap (map p) first)).0 in
          remains-as false c.args.left.now _ _ _ c.args.self.now c.loop-unit.self
          (unit-chosen p (log_bytes c.args.log.now) c.loop-unit.has_begun (facts_told c.in-Some.unit) _ _ first (sym is ∙ c.if-is_chosen.true)) (c.loop-unit.invariant.remains p same);
    }

-- another one behind it
pub loop-unit-preserved-in-Continue-1 : goal.loop-unit-preserved-in-Continue-1
loop-unit-preserved-in-Continue-1 g c =
    let first = c.in-Some.ensures.steps.first in
    let here = ap log_bytes (c.in-Some.ensures.steps.of_log ∙ c.loop-unit.invariant.log) in
    let done = rw here at c.in_ok-follow_unit.ensures in
    record {
      next = tt;
      finite = tt;
      log = c.in-Some.ensures.steps.log ∙ c.loop-unit.invariant.log;
      kept = done.kept ∙ append-nil (kept_told c.loop-unit.self) ∙ c.loop-unit.invariant.kept;
      marked = λ p same. (c.first_mark-is_chosen.ensures (p (facts_told c.in-Some.unit)) (map p (units_left c.next.new.self)) (c.loop-unit.invariant.marked p same ∙ ap (map p) first)).1;
      remains = λ p same.
          let is = (c.first_mark-is_chosen.ensures (p (facts_told c.in-Some.unit)) (map p (units_left c.next.new.self)) (c.loop-unit.invariant.marked p same ∙ ap (map p) first)).0 in
          remains-on false c.args.left.now _ _ (unit_changes (log_bytes c.args.log.now) (facts_told c.in-Some.unit)) _ c.args.self.now c.loop-unit.self _
          (unit-other p (log_bytes c.args.log.now) c.loop-unit.has_begun (facts_told c.in-Some.unit) _ _ first (sym is ∙ c.if-is_chosen.false) c.if-has_begun.true) done (c.loop-unit.invariant.remains p same);
    }

-- one before the first chosen one
pub loop-unit-preserved : goal.loop-unit-preserved
loop-unit-preserved g c =
    let first = c.in-Some.ensures.steps.first in
    record {
      next = tt;
      finite = tt;
      log = c.in-Some.ensures.steps.log ∙ c.loop-unit.invariant.log;
      kept = c.loop-unit.invariant.kept;
      marked = λ p same. (c.first_mark-is_chosen.ensures (p (facts_told c.in-Some.unit)) (map p (units_left c.next.new.self)) (c.loop-unit.invariant.marked p same ∙ ap (map p) first)).1;
      remains = λ p same.
          let is = (c.first_mark-is_chosen.ensures (p (facts_told c.in-Some.unit)) (map p (units_left c.next.new.self)) (c.loop-unit.invariant.marked p same ∙ ap (map p) first)).0 in
          remains-as false c.args.left.now _ _ _ c.args.self.now c.loop-unit.self
          (unit-before p (log_bytes c.args.log.now) c.loop-unit.has_begun (facts_told c.in-Some.unit) _ _ first (sym is ∙ c.if-is_chosen.false) c.if-has_begun.false) (c.loop-unit.invariant.remains p same);
    }
