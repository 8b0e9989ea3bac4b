use Rattle.std.proofs.Common.{◌≡◌, ℕ, ◌+◌, ◌++◌, ◌∷◌, [], length, List, map, ap, ap₂, sym, ◌∙◌, arith}
use Rattle.blog_event.specs.code.LogView.{log_bytes}
use Rattle.blog_later.specs.Later.{unit_changes}
use Rattle.blog_later.specs.code.LookedView.{left_before}
use Rattle.blog_trans.specs.Selection.{selection_of}
use Rattle.blog_units.specs.code.UnitsView.{facts_told, units_left, units_log}
use Rattle.blog_untouched.specs.Steps.{taken_of}
use Rattle.blog_untouched.proofs.PutRecorded.{none-before, unit-before, unit-chosen, unit-other}
use Rattle.blog_untouched.proofs.record.ChangeRecord.add_among.Goals as goal

-- a chosen unit
pub loop-unit-preserved-in-Continue-1 : goal.loop-unit-preserved-in-Continue-1
loop-unit-preserved-in-Continue-1 g c =
    let first = c.in-Some.ensures.steps.first in
    let here = ap log_bytes (c.in-Some.ensures.steps.of_log ∙ c.loop-unit.invariant.log) in
    let next : c.in-Some-checked_add.more ≡ c.loop-unit.lists + 1 = omega (arith, c.in-Some-checked_add.ensures) in
    record {
      next = tt;
      finite = tt;
      log = c.in-Some.ensures.steps.log ∙ c.loop-unit.invariant.log;
      marked = λ p same. (c.first_mark-is_chosen.ensures (p (facts_told c.in-Some.unit)) (map p (units_left c.next.new.self)) (c.loop-unit.invariant.marked p same ∙ ap (map p) first)).1;
      put = λ p same.
          let is = (c.first_mark-is_chosen.ensures (p (facts_told c.in-Some.unit)) (map p (units_left c.next.new.self)) (c.loop-unit.invariant.marked p same ∙ ap (map p) first)).0 in
          unit-chosen p (selection_of c.args.inside.now) (log_bytes c.args.log.now) (λ k. (left_before c.args.left.now k).rows) c.loop-unit.lists c.in-Some-checked_add.more (facts_told c.in-Some.unit) _ _ c.loop-unit.self.rows.items _ _
          c.loop-unit.self.taken.items _ first (sym is ∙ c.if-is_chosen.true) next (rw here at c.in_ok-put_chosen.ensures) (c.loop-unit.invariant.put p same);
    }

-- another one
pub loop-unit-preserved-in-Continue-branch-2 : goal.loop-unit-preserved-in-Continue-branch-2
loop-unit-preserved-in-Continue-branch-2 g c =
    let first = c.in-Some.ensures.steps.first in
    let here = ap log_bytes (c.in-Some.ensures.steps.of_log ∙ c.loop-unit.invariant.log) in
    let put : c.put_other.new.taken.items ≡ c.loop-unit.self.taken.items
    ++ taken_of (length c.loop-unit.self.rows.items) (left_before c.args.left.now c.loop-unit.lists).rows (unit_changes (log_bytes c.args.log.now) (facts_told c.in-Some.unit)) =
    c.in_ok-put_other.ensures
    ∙ ap₂ (λ (n : ℕ) (bytes : List ℕ). c.loop-unit.self.taken.items ++ taken_of n (left_before c.args.left.now c.loop-unit.lists).rows (unit_changes bytes (facts_told c.in-Some.unit))) (c.len-before.ensures ∙ c.loop-unit.self.rows.ok.0) here in
    record {
      next = tt;
      finite = tt;
      log = c.in-Some.ensures.steps.log ∙ c.loop-unit.invariant.log;
      marked = λ p same. (c.first_mark-is_chosen.ensures (p (facts_told c.in-Some.unit)) (map p (units_left c.next.new.self)) (c.loop-unit.invariant.marked p same ∙ ap (map p) first)).1;
      put = λ p same.
          let is = (c.first_mark-is_chosen.ensures (p (facts_told c.in-Some.unit)) (map p (units_left c.next.new.self)) (c.loop-unit.invariant.marked p same ∙ ap (map p) first)).0 in
          unit-other p (selection_of c.args.inside.now) (log_bytes c.args.log.now) (λ k. (left_before c.args.left.now k).rows) c.loop-unit.lists (length c.loop-unit.self.rows.items) (facts_told c.in-Some.unit) _ _ c.loop-unit.self.rows.items _
          c.loop-unit.self.taken.items _ _ first (sym is ∙ c.if-is_chosen.false) put (c.loop-unit.invariant.put p same);
    }

-- one before the first chosen one
pub loop-unit-preserved : goal.loop-unit-preserved
loop-unit-preserved g c =
    let first = c.in-Some.ensures.steps.first in
    let zero : c.loop-unit.lists ≡ 0 = let none = c.if-lists-gt0.false in omega (arith, none) in
    let none : (left_before c.args.left.now c.loop-unit.lists).rows ≡ [] = ap (λ (k : ℕ). (left_before c.args.left.now k).rows) zero ∙ none-before c.args.left.now.rows.items in
    record {
      next = tt;
      finite = tt;
      log = c.in-Some.ensures.steps.log ∙ c.loop-unit.invariant.log;
      marked = λ p same. (c.first_mark-is_chosen.ensures (p (facts_told c.in-Some.unit)) (map p (units_left c.next.new.self)) (c.loop-unit.invariant.marked p same ∙ ap (map p) first)).1;
      put = λ p same.
          let is = (c.first_mark-is_chosen.ensures (p (facts_told c.in-Some.unit)) (map p (units_left c.next.new.self)) (c.loop-unit.invariant.marked p same ∙ ap (map p) first)).0 in
          unit-before p (selection_of c.args.inside.now) (log_bytes c.args.log.now) (λ k. (left_before c.args.left.now k).rows) c.loop-unit.lists (length c.loop-unit.self.rows.items) (facts_told c.in-Some.unit) _ _ c.loop-unit.self.rows.items _
          c.loop-unit.self.taken.items _ first (sym is ∙ c.if-is_chosen.false) none (c.loop-unit.invariant.put p same);
    }
