use Rattle.std.proofs.Common.{◌≡◌, ◌+◌, ◌∷◌, map, ap, subst, sym, ◌∙◌, arith}
use Rattle.blog_choice.specs.code.ChosenView.{names_choice}
use Rattle.blog_event.specs.code.LogView.{log_bytes}
use Rattle.blog_event.specs.declared.log.Log.{Log}
use Rattle.blog_units.specs.declared.unit_facts.UnitFacts.{UnitFacts}
use Rattle.blog_units.specs.code.UnitsView.{IsJudged, facts_told, units_left, units_log}
use Rattle.blog_later.specs.Among.{others_of, touches_by}
use Rattle.blog_later.specs.Later.{later_units}
use Rattle.blog_later.specs.code.LookedView.{left_before}
use Rattle.blog_later.proofs.Amid.{amid-before, amid-chosen, amid-end, amid-none, amid-other, marked-first}
use Rattle.blog_later.proofs.looking.look_among.Goals as goal

pub loop-unit-init : goal.loop-unit-init
loop-unit-init g c =
    let bytes = log_bytes c.args.log.now in
    let all = later_units bytes c.args.from in
    let left = ap units_left c.into_iter-unit-iterator.ensures.into_iter_gives ∙ c.from_position-unit-items.ensures.units in
    record {
      next = tt;
      finite = tt;
      log = ap units_log c.into_iter-unit-iterator.ensures.into_iter_gives ∙ c.from_position-unit-items.ensures.log;
      amid = λ p same. record {
        marks_are = same ∙ ap (map p) (sym left);
        amid = amid-none (left_before c.args.left.now) p (names_choice c.args.names.now) bytes all _ _ left (c.none-looked.ensures (names_choice c.args.names.now) bytes);
      };
    }

pub loop-unit-preserved-then-is_chosen : goal.loop-unit-preserved-then-is_chosen
loop-unit-preserved-then-is_chosen g c =
    let bytes = log_bytes c.args.log.now in
    let all = later_units bytes c.args.from in
    let lefts = left_before c.args.left.now in
    let choice = names_choice c.args.names.now in
    let u = facts_told c.in-Some.unit in
    let rest = units_left c.next.new.self in
    let next : c.in-Some-checked_add.more ≡ c.loop-unit.lists + 1 = omega (arith, c.in-Some-checked_add.ensures) in
    record {
      next = tt;
      finite = tt;
      log = c.in-Some.ensures.steps.log ∙ c.loop-unit.invariant.log;
      amid = λ p same.
          let s = c.loop-unit.invariant.amid p same in
          let (is, are) = c.first_mark-is_chosen.ensures (p u) (map p rest) (marked-first lefts p choice bytes all c.loop-unit.looked c.loop-unit.lists c.loop-unit.marks.now u _ rest s c.in-Some.ensures.steps.first) in
          record {
            marks_are = are;
            amid = amid-chosen lefts p choice bytes all c.loop-unit.looked c.loop-unit.lists c.in-Some-checked_add.more u _ rest s.amid c.in-Some.ensures.steps.first (sym is ∙ c.if-is_chosen.true) next;
          };
    }

pub look-requires : goal.look-requires
look-requires g c = subst (λ (log : Log). IsJudged (log_bytes log) c.with_groups-judged.result) (c.in-Some.ensures.steps.of_log ∙ c.loop-unit.invariant.log) c.with_groups-judged.ensures.judged

pub loop-unit-preserved : goal.loop-unit-preserved
loop-unit-preserved g c =
    let bytes = log_bytes c.args.log.now in
    let all = later_units bytes c.args.from in
    let lefts = left_before c.args.left.now in
    let choice = names_choice c.args.names.now in
    let u = facts_told c.in-Some.unit in
    let rest = units_left c.next.new.self in
    let none = c.if-lists-gt0.false in
    record {
      next = tt;
      finite = tt;
      log = c.in-Some.ensures.steps.log ∙ c.loop-unit.invariant.log;
      amid = λ p same.
          let s = c.loop-unit.invariant.amid p same in
          let (is, are) = c.first_mark-is_chosen.ensures (p u) (map p rest) (marked-first lefts p choice bytes all c.loop-unit.looked c.loop-unit.lists c.loop-unit.marks.now u _ rest s c.in-Some.ensures.steps.first) in
          record {
            marks_are = are;
            amid = amid-before lefts p choice bytes all c.loop-unit.looked c.loop-unit.lists u _ rest s.amid c.in-Some.ensures.steps.first (sym is ∙ c.if-is_chosen.false) (omega (arith, none));
          };
    }

pub loop-unit-preserved-in_ok-look : goal.loop-unit-preserved-in_ok-look
loop-unit-preserved-in_ok-look g c =
    let bytes = log_bytes c.args.log.now in
    let all = later_units bytes c.args.from in
    let lefts = left_before c.args.left.now in
    let choice = names_choice c.args.names.now in
    let u = facts_told c.in-Some.unit in
    let rest = units_left c.next.new.self in
    let facts = c.with_groups-judged.ensures.facts in
    record {
      next = tt;
      finite = tt;
      log = c.in-Some.ensures.steps.log ∙ c.loop-unit.invariant.log;
      amid = λ p same.
          let s = c.loop-unit.invariant.amid p same in
          let (is, are) = c.first_mark-is_chosen.ensures (p u) (map p rest) (marked-first lefts p choice bytes all c.loop-unit.looked c.loop-unit.lists c.loop-unit.marks.now u _ rest s c.in-Some.ensures.steps.first) in
          record {
            marks_are = are;
            amid = amid-other lefts p choice bytes all c.loop-unit.looked _ c.loop-unit.lists (facts_told c.with_groups-judged.result.facts) _ rest s.amid
                (c.in-Some.ensures.steps.first ∙ ap (λ (f : UnitFacts). facts_told f ∷ rest) (sym facts)) (ap (λ (f : UnitFacts). p (facts_told f)) facts ∙ sym is ∙ c.if-is_chosen.false) c.if-lists-gt0.true
                (c.in_ok-look.ensures (others_of p s.amid.done) (touches_by lefts p bytes 0 s.amid.done) s.amid.are);
          };
    }

pub loop-unit-preserved-in_ok-look-2 : goal.loop-unit-preserved-in_ok-look-2
loop-unit-preserved-in_ok-look-2 g c =
    let bytes = log_bytes c.args.log.now in
    let all = later_units bytes c.args.from in
    let lefts = left_before c.args.left.now in
    let choice = names_choice c.args.names.now in
    let u = facts_told c.in-Some.unit in
    let rest = units_left c.next.new.self in
    let facts = c.with_groups-judged.ensures.facts in
    record {
      next = tt;
      finite = tt;
      log = c.in-Some.ensures.steps.log ∙ c.loop-unit.invariant.log;
      amid = λ p same.
          let s = c.loop-unit.invariant.amid p same in
          let (is, are) = c.first_mark-is_chosen.ensures (p u) (map p rest) (marked-first lefts p choice bytes all c.loop-unit.looked c.loop-unit.lists c.loop-unit.marks.now u _ rest s c.in-Some.ensures.steps.first) in
          record {
            marks_are = are;
            amid = amid-other lefts p choice bytes all c.loop-unit.looked _ c.loop-unit.lists (facts_told c.with_groups-judged.result.facts) _ rest s.amid
                (c.in-Some.ensures.steps.first ∙ ap (λ (f : UnitFacts). facts_told f ∷ rest) (sym facts)) (ap (λ (f : UnitFacts). p (facts_told f)) facts ∙ sym is ∙ c.if-is_chosen.false) c.if-lists-gt0.true
                (c.in_ok-look.ensures (others_of p s.amid.done) (touches_by lefts p bytes 0 s.amid.done) s.amid.are);
          };
    }

pub returns : goal.returns
returns g c p same =
    let s = c.loop-unit.invariant.amid p same in
    amid-end (left_before c.args.left.now) p (names_choice c.args.names.now) (log_bytes c.args.log.now) (later_units (log_bytes c.args.log.now) c.args.from) c.loop-unit.looked c.loop-unit.lists _ s.amid c.in-None.ensures.steps.first.0
