use Rattle.std.proofs.Common.{[], ◌∷◌, refl, ap, subst, sym, ◌∙◌}
use Rattle.blog_choice.specs.code.ChosenView.{names_choice}
use Rattle.blog_event.specs.code.LogView.{log_bytes}
use Rattle.blog_event.specs.declared.log.Log.{Log}
use Rattle.blog_units.specs.declared.unit_facts.UnitFacts.{UnitFacts}
use Rattle.blog_units.specs.code.UnitsView.{IsJudged, facts_told, units_left, units_log}
use Rattle.blog_later.specs.Later.{later_units, touches_in}
use Rattle.blog_later.specs.code.LookedView.{left_before}
use Rattle.blog_later.proofs.Seen.{looking-none, looking-on, touches-append}
use Rattle.blog_later.proofs.looking.look.Goals as goal

pub loop-unit-init : goal.loop-unit-init
loop-unit-init g c =
    let bytes = log_bytes c.args.log.now in
    let kept = left_before c.args.left.now c.args.lists in
    record {
      next = tt;
      finite = tt;
      log = ap units_log c.into_iter-unit-iterator.ensures.into_iter_gives ∙ c.from_position-unit-items.ensures.log;
      looking = looking-none (touches_in kept bytes) (names_choice c.args.names.now) bytes (later_units bytes c.args.at) _ _ refl
          (ap units_left c.into_iter-unit-iterator.ensures.into_iter_gives ∙ c.from_position-unit-items.ensures.units) (c.none-looked.ensures (names_choice c.args.names.now) bytes);
    }

pub look-requires : goal.look-requires
look-requires g c = subst (λ (log : Log). IsJudged (log_bytes log) c.with_groups-judged.result) (c.in-Some.ensures.steps.of_log ∙ c.loop-unit.invariant.log) c.with_groups-judged.ensures.judged

pub loop-unit-preserved : goal.loop-unit-preserved
loop-unit-preserved g c =
    let bytes = log_bytes c.args.log.now in
    let kept = left_before c.args.left.now c.args.lists in
    let seen = c.loop-unit.invariant.looking in
    record {
      next = tt;
      finite = tt;
      log = c.in-Some.ensures.steps.log ∙ c.loop-unit.invariant.log;
      looking = looking-on (touches_in kept bytes) (names_choice c.args.names.now) bytes (later_units bytes c.args.at) _ _ (facts_told c.with_groups-judged.result.facts) _ _ _ seen
          (c.in-Some.ensures.steps.first ∙ ap (λ (f : UnitFacts). facts_told f ∷ units_left c.next.new.self) (sym c.with_groups-judged.ensures.facts))
          (sym (touches-append kept bytes seen.done (facts_told c.with_groups-judged.result.facts ∷ []))) (c.in_ok-look.ensures seen.done (touches_in kept bytes seen.done) seen.are);
    }

pub loop-unit-preserved-in_ok-look : goal.loop-unit-preserved-in_ok-look
loop-unit-preserved-in_ok-look g c =
    let bytes = log_bytes c.args.log.now in
    let kept = left_before c.args.left.now c.args.lists in
    let seen = c.loop-unit.invariant.looking in
    record {
      next = tt;
      finite = tt;
      log = c.in-Some.ensures.steps.log ∙ c.loop-unit.invariant.log;
      looking = looking-on (touches_in kept bytes) (names_choice c.args.names.now) bytes (later_units bytes c.args.at) _ _ (facts_told c.with_groups-judged.result.facts) _ _ _ seen
          (c.in-Some.ensures.steps.first ∙ ap (λ (f : UnitFacts). facts_told f ∷ units_left c.next.new.self) (sym c.with_groups-judged.ensures.facts))
          (sym (touches-append kept bytes seen.done (facts_told c.with_groups-judged.result.facts ∷ []))) (c.in_ok-look.ensures seen.done (touches_in kept bytes seen.done) seen.are);
    }
