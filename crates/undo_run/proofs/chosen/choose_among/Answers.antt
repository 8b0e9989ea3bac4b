use Rattle.std.proofs.Common.{ℕ, List, ap, subst, sym, ◌∙◌}
use Rattle.std.specs.Prelude.{Ok, Option, is_some}
use Rattle.blog_event.specs.code.LogView.{log_bytes}
use Rattle.blog_later.specs.Among.{chosen_of}
use Rattle.blog_later.specs.Later.{later_units}
use Rattle.blog_source.specs.code.SourceView.{end_of, log_of}
use Rattle.blog_trans.specs.Selection.{selection_of}
use Rattle.blog_trans.specs.declared.groups.Index.{Index}
use Rattle.blog_units.specs.code.UnitsView.{facts_told, units_left, units_log}
use Rattle.undo_run.specs.code.Steps.{HandsGroups, chosen_by}
use Rattle.undo_run.proofs.Kept.{chosen-more, chosen-none, chosen-other, damaged-after, not-added, not-handed}
use Rattle.undo_run.proofs.chosen.choose_among.Goals as goal

pub loop-unit-init : goal.loop-unit-init
loop-unit-init g c =
    let handed = log_of c.args.source.now in
    let sel = selection_of c.args.inside.now in
    record {
      next = tt;
      finite = tt;
      log = ap units_log c.into_iter-unit-iterator.ensures.into_iter_gives ∙ c.from_position-unit-items.ensures.log;
      chosen = chosen-none c.args.looks (chosen_by c.args.among.now sel handed) sel handed _ c.new-marks.result.items _ c.new-marks.ensures.items
          (ap units_left c.into_iter-unit-iterator.ensures.into_iter_gives ∙ c.from_position-unit-items.ensures.units ∙ ap (λ (b : List ℕ). later_units b c.args.inside.now.start) c.requires.bytes)
          (c.none-chosen.ensures c.args.looks sel handed);
    }

pub groups_if_chosen-requires-clause-unit : goal.groups_if_chosen-requires-clause-unit
groups_if_chosen-requires-clause-unit g c = ap log_bytes (c.in-Some.ensures.steps.of_log ∙ c.loop-unit.invariant.log) ∙ c.requires.bytes

pub returns-in-Err : goal.returns-in-Err
returns-in-Err g c =
    let sel = selection_of c.args.inside.now in
    let handed = log_of c.args.source.now in
    not-handed c.args.looks (chosen_by c.args.among.now sel handed) sel handed (end_of c.args.source.now) c.args.damage c.loop-unit.chosen c.loop-unit.marks.items _ _ (facts_told c.in-Some.unit) c.in-Err.fault c.loop-unit.invariant.chosen
    c.in-Some.ensures.steps.first c.in-Err.ensures

pub returns-in-Err-with : goal.returns-in-Err-with
returns-in-Err-with g c =
    let handed = log_of c.args.source.now in
    let sel = selection_of c.args.inside.now in
    let p = chosen_by c.args.among.now sel handed in
    let u = facts_told c.in-Some.unit in
    let s = c.loop-unit.invariant.chosen in
    let (is, accepted, range) = subst (λ (o : Option (Index g.row.A.Denot)). HandsGroups {A = g.row.A.Denot} p sel handed (end_of c.args.source.now) c.args.damage u (Ok o)) c.in-Some-groups.is c.in-Ok.ensures in
    not-added c.args.looks p sel handed (end_of c.args.source.now) c.args.damage c.loop-unit.chosen c.loop-unit.marks.items _ _ u c.in-Err-with.fault s c.in-Some.ensures.steps.first is
    accepted (c.in-Err-with.ensures sel handed (chosen_of p s.done) u range s.has)

pub loop-unit-preserved-in-Some-groups : goal.loop-unit-preserved-in-Some-groups
loop-unit-preserved-in-Some-groups g c =
    let handed = log_of c.args.source.now in
    let sel = selection_of c.args.inside.now in
    let p = chosen_by c.args.among.now sel handed in
    let u = facts_told c.in-Some.unit in
    let s = c.loop-unit.invariant.chosen in
    let (is, accepted, range) = subst (λ (o : Option (Index g.row.A.Denot)). HandsGroups {A = g.row.A.Denot} p sel handed (end_of c.args.source.now) c.args.damage u (Ok o)) c.in-Some-groups.is c.in-Ok.ensures in
    let mark = c.is_some.ensures ∙ ap is_some c.in-Some-groups.is in
    record {
      next = tt;
      finite = tt;
      log = c.in-Some.ensures.steps.log ∙ c.loop-unit.invariant.log;
      chosen = chosen-more c.args.looks p sel handed c.loop-unit.chosen c.in-Ok-with.more c.loop-unit.marks.items c.put_mark.new.marks.items c.is_some.result _ _ u s c.in-Some.ensures.steps.first (mark ∙ sym is) mark c.in-Ok-put_mark.ensures
          (c.in-Ok-with.ensures sel handed (chosen_of p s.done) u range s.has);
    }

pub loop-unit-preserved : goal.loop-unit-preserved
loop-unit-preserved g c =
    let handed = log_of c.args.source.now in
    let sel = selection_of c.args.inside.now in
    let p = chosen_by c.args.among.now sel handed in
    let u = facts_told c.in-Some.unit in
    let out = subst (λ (o : Option (Index g.row.A.Denot)). HandsGroups {A = g.row.A.Denot} p sel handed (end_of c.args.source.now) c.args.damage u (Ok o)) c.in-None-groups.is c.in-Ok.ensures in
    let mark = c.is_some.ensures ∙ ap is_some c.in-None-groups.is in
    record {
      next = tt;
      finite = tt;
      log = c.in-Some.ensures.steps.log ∙ c.loop-unit.invariant.log;
      chosen = chosen-other c.args.looks p sel handed c.loop-unit.chosen c.loop-unit.marks.items c.put_mark.new.marks.items c.is_some.result _ _ u c.loop-unit.invariant.chosen c.in-Some.ensures.steps.first
          (mark ∙ sym out) mark c.in-Ok-put_mark.ensures;
    }

pub returns-in-Some-damage : goal.returns-in-Some-damage
returns-in-Some-damage g c =
    damaged-after g.row.A.Denot c.args.looks (chosen_by c.args.among.now (selection_of c.args.inside.now) (log_of c.args.source.now)) (selection_of c.args.inside.now) (log_of c.args.source.now) (end_of c.args.source.now) c.loop-unit.chosen c.loop-unit.marks.items _ c.args.damage c.in-Some-damage.damage c.loop-unit.invariant.chosen
    c.in-None.ensures.steps.first.0 c.in-Some-damage.is
