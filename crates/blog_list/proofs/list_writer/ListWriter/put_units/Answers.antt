use Rattle.std.proofs.Common.{ℕ, List, ◌∷◌, map, refl, sym, ap, subst, ◌∙◌}
use Rattle.std.specs.Prelude.{option_copied}
use Rattle.std.proofs.Math.Bool.{or-false}
use Rattle.std.proofs.lemmas.Result.{err_from_is_err_and}
use Rattle.blog_event.specs.code.LogView.{log_bytes}
use Rattle.blog_event.specs.declared.log.Log.{Log}
use Rattle.blog_source.specs.code.SourceView.{damaged_of}
use Rattle.blog_units.specs.Units.{facts_of, units}
use Rattle.blog_units.specs.declared.unit_facts.UnitFacts.{UnitFacts}
use Rattle.blog_units.specs.code.UnitsView.{IsJudged, facts_told, units_left}
use Rattle.blog_request.specs.Wanted.{is_before}
use Rattle.blog_list.specs.Lines.{LogList}
use Rattle.blog_list.specs.Shown.{log_list, passed_over_of}
use Rattle.blog_list.specs.code.Told.{source_place}
use Rattle.blog_list.specs.code.Totals.{HasDamaged}
use Rattle.blog_list.specs.code.WriterView.{form_of, gtids_of, sorting_of}
use Rattle.blog_list.proofs.Ending.{passing-none, passing-more, passing-stopped, passing-end}
use Rattle.blog_list.proofs.Holding.{holding-broken, holding-end, holding-left, holding-none, holding-outside, holding-unwanted, holding-wanted}
use Rattle.blog_list.proofs.OnTheWay.{counting-end, counting-more, counting-none, counting-outside, groups-told, listed_of, listing-unbegun, stopped-first, stopped-passed}
use Rattle.blog_list.proofs.list_writer.ListWriter.put_units.Goals.{then-is_listed+in_ok-keep_unit, else-is_listed}
use Rattle.blog_list.proofs.list_writer.ListWriter.put_units.Goals as goal

pub returns-in_err-put_name-clause-beginning : goal.returns-in_err-put_name-clause-beginning
returns-in_err-put_name-clause-beginning g c =
    let p = err_from_is_err_and c.from_residual.result c.from_residual.ensures.1 in
    let l : LogList = log_list (option_copied c.args.name) (sorting_of c.args.self.now) c.args.wanted.now (log_bytes c.args.log.now) (source_place c.args.source.now) (damaged_of c.args.source.now) in
    rw p.1 (listing-unbegun _ _ _ _ l _ _)

pub returns-in_err-names-clause-beginning : goal.returns-in_err-names-clause-beginning
returns-in_err-names-clause-beginning g c =
    let p = err_from_is_err_and c.from_residual-in_err-names.result c.from_residual-in_err-names.ensures.1 in
    let l : LogList = log_list (option_copied c.args.name) (sorting_of c.args.self.now) c.args.wanted.now (log_bytes c.args.log.now) (source_place c.args.source.now) (damaged_of c.args.source.now) in
    rw p.1 (listing-unbegun _ _ _ _ l _ _)

pub loop-unit-init : goal.loop-unit-init
loop-unit-init g c =
    let log : List ℕ = log_bytes c.args.log.now in
    let all = ap units_left c.into_iter-unit-iterator.ensures.into_iter_gives ∙ c.new-unit-items.ensures.units in
    record {
      next = tt;
      finite = tt;
      same = ap (λ units. units.log) c.into_iter-unit-iterator.ensures.into_iter_gives ∙ c.new-unit-items.ensures.log;
      mark = refl;
      list = holding-none (sorting_of c.args.self.now) _ _ _ _ _ _ refl (ap (listed_of c.args.wanted.now log (source_place c.args.source.now)) all) c.in_ok-put_name.ensures c.requires;
      count = counting-none _ _ _ _ _ (subst (λ (n : ℕ). HasDamaged c.args.totals.now c.add_damaged.new.self n) c.damaged.ensures c.add_damaged.ensures)
          (ap (listed_of c.args.wanted.now log (source_place c.args.source.now)) all) (ap (passed_over_of c.args.wanted.now log) all);
      passing = passing-none (map facts_of (units log)) c.args.wanted.now.stop _ all;
    }

pub returns-then-not-is_before-clause-text : goal.returns-then-not-is_before-clause-text
returns-then-not-is_before-clause-text g c =
    let before = sym c.is_before.ensures ∙ c.if-not-is_before.true in
    let none = stopped-first c.args.wanted.now (log_bytes c.args.log.now) (source_place c.args.source.now) (facts_told c.in-Some.unit) _ _ c.in-Some.ensures.steps.first before in
    holding-end (sorting_of c.args.self.now) _ _ _ _ _ _ _ c.loop-unit.invariant.list none

pub returns-then-not-is_before-clause-counted : goal.returns-then-not-is_before-clause-counted
returns-then-not-is_before-clause-counted g c =
    let before = sym c.is_before.ensures ∙ c.if-not-is_before.true in
    let none = stopped-first c.args.wanted.now (log_bytes c.args.log.now) (source_place c.args.source.now) (facts_told c.in-Some.unit) _ _ c.in-Some.ensures.steps.first before in
    let no = stopped-passed c.args.wanted.now (log_bytes c.args.log.now) (facts_told c.in-Some.unit) _ _ c.in-Some.ensures.steps.first before in
    counting-end _ _ _ _ _ c.loop-unit.invariant.count none no

pub returns-then-not-is_before-clause-end : goal.returns-then-not-is_before-clause-end
returns-then-not-is_before-clause-end g c =
    let before = sym c.is_before.ensures ∙ c.if-not-is_before.true in
    passing-stopped (map facts_of (units (log_bytes c.args.log.now))) c.args.wanted.now.stop c.loop-unit.whole (facts_told c.in-Some.unit) _ _ c.loop-unit.invariant.passing c.in-Some.ensures.steps.first before

pub returns-then-has_no_memory-clause-beginning : goal.returns-then-has_no_memory-clause-beginning
returns-then-has_no_memory-clause-beginning g c = holding-left (sorting_of c.args.self.now) _ _ _ _ _ _ _ c.loop-unit.invariant.list

pub returns-in_err-keep_unit-clause-beginning : goal.returns-in_err-keep_unit-clause-beginning
returns-in_err-keep_unit-clause-beginning g c =
    let p = err_from_is_err_and c.from_residual-in_err-keep_unit.result c.from_residual-in_err-keep_unit.ensures.1 in
    let log : List ℕ = log_bytes c.args.log.now in
    let unit = c.with_groups-judged.result in
    let of_log = c.in-Some.ensures.steps.of_log ∙ c.loop-unit.invariant.same in
    let same = groups-told log unit (subst (λ (l : Log). IsJudged (log_bytes l) unit) of_log c.with_groups-judged.ensures.judged) (sym c.has_no_memory.ensures ∙ c.if-has_no_memory.false) in
    let first = c.in-Some.ensures.steps.first ∙ ap (λ (f : UnitFacts). facts_told f ∷ units_left c.next.new.self) (sym c.with_groups-judged.ensures.facts) in
    let earlier = ap (λ (f : UnitFacts). is_before f.start c.args.wanted.now.stop) c.with_groups-judged.ensures.facts ∙ sym c.is_before.ensures ∙ c.if-not-is_before.false in
    rw p.1 (holding-broken (sorting_of c.args.self.now) c.args.text.now.items (form_of c.args.self.now) (gtids_of c.args.self.now) c.args.self.now.times c.args.wanted.now log (source_place c.args.source.now) _ _ _ _ _ _ _ _ unit _
    c.loop-unit.invariant.list first same earlier c.concern-concern.ensures (sym c.is_listed.ensures ∙ c.if-is_listed.true) c.in_err-keep_unit.ensures.beginning)

pub loop-unit-preserved-then-not-has_in_range : goal.loop-unit-preserved-then-not-has_in_range
loop-unit-preserved-then-not-has_in_range g c =
    let log : List ℕ = log_bytes c.args.log.now in
    let u = facts_told c.in-Some.unit in
    let first = c.in-Some.ensures.steps.first in
    let earlier = sym c.is_before.ensures ∙ c.if-not-is_before.false in
    let outside = sym c.has_in_range.ensures ∙ c.if-not-has_in_range.true in
    record {
      next = tt;
      finite = tt;
      same = c.in-Some.ensures.steps.log ∙ c.loop-unit.invariant.same;
      mark = c.loop-unit.invariant.mark;
      list = holding-outside (sorting_of c.args.self.now) _ c.args.wanted.now log (source_place c.args.source.now) _ _ _ _ _ _ _ u c.loop-unit.invariant.list first earlier outside;
      count = counting-outside c.args.wanted.now log (source_place c.args.source.now) _ _ _ _ _ u c.loop-unit.invariant.count first earlier outside;
      passing = passing-more (map facts_of (units log)) c.args.wanted.now.stop c.loop-unit.whole c.in-Some.unit.whole u _ _ c.loop-unit.invariant.passing first earlier refl;
    }

pub loop-unit-preserved-after-is_listed : goal.loop-unit-preserved-after-is_listed
loop-unit-preserved-after-is_listed g c =
    let log : List ℕ = log_bytes c.args.log.now in
    let unit = c.with_groups-judged.result in
    let of_log = c.in-Some.ensures.steps.of_log ∙ c.loop-unit.invariant.same in
    let same = groups-told log unit (subst (λ (l : Log). IsJudged (log_bytes l) unit) of_log c.with_groups-judged.ensures.judged) (sym c.has_no_memory.ensures ∙ c.if-has_no_memory.false) in
    let first = c.in-Some.ensures.steps.first ∙ ap (λ (f : UnitFacts). facts_told f ∷ units_left c.next.new.self) (sym c.with_groups-judged.ensures.facts) in
    let earlier = ap (λ (f : UnitFacts). is_before f.start c.args.wanted.now.stop) c.with_groups-judged.ensures.facts ∙ sym c.is_before.ensures ∙ c.if-not-is_before.false in
    let passing = passing-more (map facts_of (units log)) c.args.wanted.now.stop c.loop-unit.whole c.in-Some.unit.whole (facts_told c.in-Some.unit) _ _
    c.loop-unit.invariant.passing c.in-Some.ensures.steps.first (sym c.is_before.ensures ∙ c.if-not-is_before.false) refl in
    let of = ap (λ (l : Log). l) c.in-Some.ensures.steps.log ∙ c.loop-unit.invariant.same in
    let count = counting-more _ c.args.wanted.now log (source_place c.args.source.now) _ _ _ _ _ _ unit c.loop-unit.invariant.count first same earlier c.concern-concern.ensures c.count.ensures in
    elim c.if-is_listed.branch [
      | then-is_listed+in_ok-keep_unit w ↦ rw (w.writer-is, w.text-is, w.ranking-is) (record {
        next = tt;
        finite = tt;
        same = of;
        mark = (rw or-false at w.in_ok-keep_unit.ensures.mark) ∙ c.loop-unit.invariant.mark;
        list = holding-wanted (sorting_of c.args.self.now) c.args.text.now.items (form_of c.args.self.now) (gtids_of c.args.self.now) c.args.self.now.times c.args.wanted.now log (source_place c.args.source.now) _ _ _ _ _ _ _ _ _ _ unit _
            c.loop-unit.invariant.list first same earlier c.concern-concern.ensures (sym c.is_listed.ensures ∙ w.if-is_listed.true) _ c.in_ok-names.ensures w.in_ok-keep_unit.ensures.text;
        count = count;
        passing = passing;
      })
      | else-is_listed w ↦ rw (w.writer-is, w.text-is, w.ranking-is) (record {
        next = tt;
        finite = tt;
        same = of;
        mark = c.loop-unit.invariant.mark;
        list = holding-unwanted (sorting_of c.args.self.now) _ c.args.wanted.now log (source_place c.args.source.now) _ _ _ _ _ _ _ unit _ c.loop-unit.invariant.list first same earlier c.concern-concern.ensures (sym c.is_listed.ensures ∙ w.if-is_listed.false);
        count = count;
        passing = passing;
      })
    ]

pub loop-unit-preserved : goal.loop-unit-preserved
loop-unit-preserved g c =
    let log : List ℕ = log_bytes c.args.log.now in
    let unit = c.with_groups-judged.result in
    let of_log = c.in-Some.ensures.steps.of_log ∙ c.loop-unit.invariant.same in
    let same = groups-told log unit (subst (λ (l : Log). IsJudged (log_bytes l) unit) of_log c.with_groups-judged.ensures.judged) (sym c.has_no_memory.ensures ∙ c.if-has_no_memory.false) in
    let first = c.in-Some.ensures.steps.first ∙ ap (λ (f : UnitFacts). facts_told f ∷ units_left c.next.new.self) (sym c.with_groups-judged.ensures.facts) in
    let earlier = ap (λ (f : UnitFacts). is_before f.start c.args.wanted.now.stop) c.with_groups-judged.ensures.facts ∙ sym c.is_before.ensures ∙ c.if-not-is_before.false in
    let passing = passing-more (map facts_of (units log)) c.args.wanted.now.stop c.loop-unit.whole c.in-Some.unit.whole (facts_told c.in-Some.unit) _ _
    c.loop-unit.invariant.passing c.in-Some.ensures.steps.first (sym c.is_before.ensures ∙ c.if-not-is_before.false) refl in
    let of = ap (λ (l : Log). l) c.in-Some.ensures.steps.log ∙ c.loop-unit.invariant.same in
    let count = counting-more _ c.args.wanted.now log (source_place c.args.source.now) _ _ _ _ _ _ unit c.loop-unit.invariant.count first same earlier c.concern-concern.ensures c.count.ensures in
    elim c.if-is_listed.branch [
      | then-is_listed+in_ok-keep_unit w ↦ rw (w.writer-is, w.text-is, w.ranking-is) (record {
        next = tt;
        finite = tt;
        same = of;
        mark = (rw or-false at w.in_ok-keep_unit.ensures.mark) ∙ c.loop-unit.invariant.mark;
        list = holding-wanted (sorting_of c.args.self.now) c.args.text.now.items (form_of c.args.self.now) (gtids_of c.args.self.now) c.args.self.now.times c.args.wanted.now log (source_place c.args.source.now) _ _ _ _ _ _ _ _ _ _ unit _
            c.loop-unit.invariant.list first same earlier c.concern-concern.ensures (sym c.is_listed.ensures ∙ w.if-is_listed.true) _ c.in_ok-names.ensures w.in_ok-keep_unit.ensures.text;
        count = count;
        passing = passing;
      })
      | else-is_listed w ↦ rw (w.writer-is, w.text-is, w.ranking-is) (record {
        next = tt;
        finite = tt;
        same = of;
        mark = c.loop-unit.invariant.mark;
        list = holding-unwanted (sorting_of c.args.self.now) _ c.args.wanted.now log (source_place c.args.source.now) _ _ _ _ _ _ _ unit _ c.loop-unit.invariant.list first same earlier c.concern-concern.ensures (sym c.is_listed.ensures ∙ w.if-is_listed.false);
        count = count;
        passing = passing;
      })
    ]

pub returns-clause-text : goal.returns-clause-text
returns-clause-text g c =
    let none = ap (listed_of c.args.wanted.now (log_bytes c.args.log.now) (source_place c.args.source.now)) c.in-None.ensures.steps.first.0 in
    holding-end (sorting_of c.args.self.now) _ _ _ _ _ _ _ c.loop-unit.invariant.list none

pub returns-clause-counted : goal.returns-clause-counted
returns-clause-counted g c =
    let none = ap (listed_of c.args.wanted.now (log_bytes c.args.log.now) (source_place c.args.source.now)) c.in-None.ensures.steps.first.0 in
    let no = ap (passed_over_of c.args.wanted.now (log_bytes c.args.log.now)) c.in-None.ensures.steps.first.0 in
    counting-end _ _ _ _ _ c.loop-unit.invariant.count none no

pub returns-clause-end : goal.returns-clause-end
returns-clause-end g c = passing-end (map facts_of (units (log_bytes c.args.log.now))) c.args.wanted.now.stop c.loop-unit.whole _ c.loop-unit.invariant.passing c.in-None.ensures.steps.first.0
