use Rattle.std.proofs.Common.{◌≡◌, ℕ, List, Bool, true, false, map, refl, sym, ap, subst, ◌∙◌}
use Rattle.blog_choice.specs.code.Views.{choice_value}
use Rattle.blog_event.specs.code.LogView.{log_bytes}
use Rattle.blog_event.specs.declared.log.Log.{Log}
use Rattle.blog_list.specs.code.Told.{source_place}
use Rattle.blog_request.specs.Wanted.{is_wanted_unit}
use Rattle.blog_list.specs.Shown.{changes_of}
use Rattle.blog_source.specs.Places.{position_of}
use Rattle.blog_source.specs.code.SourceView.{log_of}
use Rattle.blog_units.specs.code.UnitsView.{IsJudged, facts_told}
use Rattle.blog_units.specs.declared.unit_facts.UnitFacts.{UnitFacts}
use Rattle.show_run.specs.Shown.{ShowsUnit}
use Rattle.show_run.proofs.Showing.{at-and-wanted, kept-held, not-at, not-wanted, outside-unwanted, unit-held, wanted-told}
use Rattle.show_run.proofs.source_rows.show_unit.Goals as goal

pub returns-then-not-is_at-clause-shown : goal.returns-then-not-is_at-clause-shown
returns-then-not-is_at-clause-shown g c =
    let ps : List ℕ = map (position_of (log_of c.args.source.now)) c.args.places.now in
    kept-held _ c.args.style.now.form (choice_value c.args.wanted.now.choice) (source_place c.args.source.now) (log_bytes c.args.log.now) (facts_told c.args.unit) _ _
    (not-at c.args.wanted.now ps (log_bytes c.args.log.now) (facts_told c.args.unit) (sym c.is_at.ensures ∙ c.if-not-is_at.true))

pub returns-then-not-is_at-clause-told : goal.returns-then-not-is_at-clause-told
returns-then-not-is_at-clause-told g c =
    let ps : List ℕ = map (position_of (log_of c.args.source.now)) c.args.places.now in
    sym (not-at c.args.wanted.now ps (log_bytes c.args.log.now) (facts_told c.args.unit) (sym c.is_at.ensures ∙ c.if-not-is_at.true))

pub returns-then-not-has_in_range-clause-shown : goal.returns-then-not-has_in_range-clause-shown
returns-then-not-has_in_range-clause-shown g c =
    let ps : List ℕ = map (position_of (log_of c.args.source.now)) c.args.places.now in
    let u = facts_told c.args.unit in
    kept-held _ c.args.style.now.form (choice_value c.args.wanted.now.choice) (source_place c.args.source.now) (log_bytes c.args.log.now) u _ _
    (not-wanted c.args.wanted.now ps (log_bytes c.args.log.now) u (outside-unwanted c.args.wanted.now (log_bytes c.args.log.now) u (sym c.has_in_range.ensures ∙ c.if-not-has_in_range.true)))

pub returns-then-not-has_in_range-clause-told : goal.returns-then-not-has_in_range-clause-told
returns-then-not-has_in_range-clause-told g c =
    let ps : List ℕ = map (position_of (log_of c.args.source.now)) c.args.places.now in
    let u = facts_told c.args.unit in
    sym (not-wanted c.args.wanted.now ps (log_bytes c.args.log.now) u (outside-unwanted c.args.wanted.now (log_bytes c.args.log.now) u (sym c.has_in_range.ensures ∙ c.if-not-has_in_range.true)))

pub returns-then-not-is_wanted-clause-shown : goal.returns-then-not-is_wanted-clause-shown
returns-then-not-is_wanted-clause-shown g c =
    let ps : List ℕ = map (position_of (log_of c.args.source.now)) c.args.places.now in
    let log : List ℕ = log_bytes c.args.log.now in
    let u = facts_told c.args.unit in
    let judged = subst (λ (l : Log). IsJudged (log_bytes l) c.with_groups-judged.result) c.requires.log c.with_groups-judged.ensures.judged in
    let told = wanted-told c.args.wanted.now log c.with_groups-judged.result c.args.unit c.concern.result judged (sym c.has_no_memory.ensures ∙ c.if-has_no_memory.false) c.with_groups-judged.ensures.facts c.concern.ensures in
    kept-held _ c.args.style.now.form (choice_value c.args.wanted.now.choice) (source_place c.args.source.now) log u _ _
    (not-wanted c.args.wanted.now ps log u (sym told ∙ (sym c.is_wanted.ensures ∙ c.if-not-is_wanted.true)))

pub returns-then-not-is_wanted-clause-told : goal.returns-then-not-is_wanted-clause-told
returns-then-not-is_wanted-clause-told g c =
    let ps : List ℕ = map (position_of (log_of c.args.source.now)) c.args.places.now in
    let log : List ℕ = log_bytes c.args.log.now in
    let u = facts_told c.args.unit in
    let judged = subst (λ (l : Log). IsJudged (log_bytes l) c.with_groups-judged.result) c.requires.log c.with_groups-judged.ensures.judged in
    let told = wanted-told c.args.wanted.now log c.with_groups-judged.result c.args.unit c.concern.result judged (sym c.has_no_memory.ensures ∙ c.if-has_no_memory.false) c.with_groups-judged.ensures.facts c.concern.ensures in
    sym (not-wanted c.args.wanted.now ps log u (sym told ∙ (sym c.is_wanted.ensures ∙ c.if-not-is_wanted.true)))

pub returns-clause-shown : goal.returns-clause-shown
returns-clause-shown g c =
    let ps : List ℕ = map (position_of (log_of c.args.source.now)) c.args.places.now in
    let log : List ℕ = log_bytes c.args.log.now in
    let u = facts_told c.args.unit in
    let judged = subst (λ (l : Log). IsJudged (log_bytes l) c.with_groups-judged.result) c.requires.log c.with_groups-judged.ensures.judged in
    let told = wanted-told c.args.wanted.now log c.with_groups-judged.result c.args.unit c.concern.result judged (sym c.has_no_memory.ensures ∙ c.if-has_no_memory.false) c.with_groups-judged.ensures.facts c.concern.ensures in
    unit-held _ c.args.style.now.form (choice_value c.args.wanted.now.choice) (source_place c.args.source.now) log u _ _ _ _ _
    (at-and-wanted c.args.wanted.now ps log u (sym c.is_at.ensures ∙ c.if-not-is_at.false) (sym told ∙ (sym c.is_wanted.ensures ∙ c.if-not-is_wanted.false)))
    (subst (λ (f : UnitFacts). ShowsUnit c.args.style.now.form (choice_value c.args.wanted.now.choice) (source_place c.args.source.now) log (facts_told f) c.args.page.now.text.items c.put_unit.new.self.text.items) c.with_groups-judged.ensures.facts c.in_ok-put_unit.ensures)
    c.in_ok-write_full.ensures.written

pub returns-clause-told : goal.returns-clause-told
returns-clause-told g c =
    let ps : List ℕ = map (position_of (log_of c.args.source.now)) c.args.places.now in
    let log : List ℕ = log_bytes c.args.log.now in
    let u = facts_told c.args.unit in
    let judged = subst (λ (l : Log). IsJudged (log_bytes l) c.with_groups-judged.result) c.requires.log c.with_groups-judged.ensures.judged in
    let told = wanted-told c.args.wanted.now log c.with_groups-judged.result c.args.unit c.concern.result judged (sym c.has_no_memory.ensures ∙ c.if-has_no_memory.false) c.with_groups-judged.ensures.facts c.concern.ensures in
    sym (at-and-wanted c.args.wanted.now ps log u (sym c.is_at.ensures ∙ c.if-not-is_at.false) (sym told ∙ (sym c.is_wanted.ensures ∙ c.if-not-is_wanted.false)))
