use Rattle.std.proofs.Common.{ℕ, List, sym, ap, subst, ◌∙◌}
use Rattle.std.proofs.lemmas.Bool.{cond-false, cond-true}
use Rattle.blog_choice.specs.code.Views.{choice_value}
use Rattle.blog_event.specs.code.LogView.{log_bytes}
use Rattle.blog_event.specs.declared.log.Log.{Log}
use Rattle.blog_list.specs.Shown.{changes_of}
use Rattle.blog_list.specs.code.Told.{source_place}
use Rattle.blog_report.specs.code.ReportView.{said_of}
use Rattle.blog_request.specs.Wanted.{is_wanted_unit}
use Rattle.blog_units.specs.code.UnitsView.{IsJudged, facts_told}
use Rattle.blog_units.specs.declared.unit_facts.UnitFacts.{UnitFacts}
use Rattle.show_run.specs.Reported.{with_reported}
use Rattle.show_run.proofs.Reporting.{reported-told}
use Rattle.show_run.proofs.Showing.{outside-unwanted, wanted-told}
use Rattle.show_run.proofs.source_report.report_unit.Goals as goal

pub returns-then-not-has_in_range-clause-said : goal.returns-then-not-has_in_range-clause-said
returns-then-not-has_in_range-clause-said g c =
    let log : List ℕ = log_bytes c.args.log.now in
    let u = facts_told c.args.unit in record {
      is = sym (cond-false (is_wanted_unit c.args.wanted.now log u (changes_of log u)) _ _ (outside-unwanted c.args.wanted.now log u (sym c.has_in_range.ensures ∙ c.if-not-has_in_range.true)));
      whole = λ w. w;
    }

pub returns-then-not-has_in_range-clause-told : goal.returns-then-not-has_in_range-clause-told
returns-then-not-has_in_range-clause-told g c =
    sym (outside-unwanted c.args.wanted.now (log_bytes c.args.log.now) (facts_told c.args.unit) (sym c.has_in_range.ensures ∙ c.if-not-has_in_range.true))

pub returns-then-not-is_wanted-clause-said : goal.returns-then-not-is_wanted-clause-said
returns-then-not-is_wanted-clause-said g c =
    let log : List ℕ = log_bytes c.args.log.now in
    let u = facts_told c.args.unit in
    let judged = subst (λ (l : Log). IsJudged (log_bytes l) c.with_groups-judged.result) c.requires.log c.with_groups-judged.ensures.judged in
    let told = wanted-told c.args.wanted.now log c.with_groups-judged.result c.args.unit c.concern.result judged (sym c.has_no_memory.ensures ∙ c.if-has_no_memory.false) c.with_groups-judged.ensures.facts c.concern.ensures in record {
      is = sym (cond-false (is_wanted_unit c.args.wanted.now log u (changes_of log u)) _ _ (sym told ∙ (sym c.is_wanted.ensures ∙ c.if-not-is_wanted.true)));
      whole = λ w. w;
    }

pub returns-then-not-is_wanted-clause-told : goal.returns-then-not-is_wanted-clause-told
returns-then-not-is_wanted-clause-told g c =
    let log : List ℕ = log_bytes c.args.log.now in
    let judged = subst (λ (l : Log). IsJudged (log_bytes l) c.with_groups-judged.result) c.requires.log c.with_groups-judged.ensures.judged in
    let told = wanted-told c.args.wanted.now log c.with_groups-judged.result c.args.unit c.concern.result judged (sym c.has_no_memory.ensures ∙ c.if-has_no_memory.false) c.with_groups-judged.ensures.facts c.concern.ensures in
    sym (sym told ∙ (sym c.is_wanted.ensures ∙ c.if-not-is_wanted.true))

pub returns-clause-said : goal.returns-clause-said
returns-clause-said g c =
    let log : List ℕ = log_bytes c.args.log.now in
    let u = facts_told c.args.unit in
    let judged = subst (λ (l : Log). IsJudged (log_bytes l) c.with_groups-judged.result) c.requires.log c.with_groups-judged.ensures.judged in
    let memory = sym c.has_no_memory.ensures ∙ c.if-has_no_memory.false in
    let told = wanted-told c.args.wanted.now log c.with_groups-judged.result c.args.unit c.concern.result judged memory c.with_groups-judged.ensures.facts c.concern.ensures in record {
      is = c.in_ok-add_judged.ensures.is
          ∙ reported-told c.args.number (source_place c.args.source.now) log (choice_value c.args.wanted.now.choice) c.with_groups-judged.result (said_of c.args.report.now) judged memory
          ∙ ap (λ (f : UnitFacts). with_reported c.args.number (source_place c.args.source.now) log (choice_value c.args.wanted.now.choice) (facts_told f) (said_of c.args.report.now)) c.with_groups-judged.ensures.facts
          ∙ sym (cond-true (is_wanted_unit c.args.wanted.now log u (changes_of log u)) _ _ (sym told ∙ (sym c.is_wanted.ensures ∙ c.if-not-is_wanted.false)));
      whole = c.in_ok-add_judged.ensures.whole;
    }

pub returns-clause-told : goal.returns-clause-told
returns-clause-told g c =
    let log : List ℕ = log_bytes c.args.log.now in
    let judged = subst (λ (l : Log). IsJudged (log_bytes l) c.with_groups-judged.result) c.requires.log c.with_groups-judged.ensures.judged in
    let told = wanted-told c.args.wanted.now log c.with_groups-judged.result c.args.unit c.concern.result judged (sym c.has_no_memory.ensures ∙ c.if-has_no_memory.false) c.with_groups-judged.ensures.facts c.concern.ensures in
    sym (sym told ∙ (sym c.is_wanted.ensures ∙ c.if-not-is_wanted.false))
