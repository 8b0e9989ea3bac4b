use Rattle.std.proofs.Common.{◌≡◌, ap₂, ◌∙◌}
use Rattle.blog_choice.specs.code.Views.{choice_value}
use Rattle.blog_list.specs.code.Told.{source_place}
use Rattle.blog_report.specs.Said.{Said, with_unit}
use Rattle.blog_report.specs.declared.facts.UnitFact.{UnitFact}
use Rattle.blog_trans.specs.Changes.{counts_of}
use Rattle.blog_trans.specs.Groups.{groups}
use Rattle.blog_trans.specs.code.IndexView.{index_bytes, index_groups, index_selection}
use Rattle.blog_units.specs.code.UnitsView.{facts_told}
use Rattle.show_run.specs.Reported.{chosen, seconds_from, sum_rows, unit_fact}
use Rattle.show_run.proofs.source_report.add_groups.Goals as goal

pub returns : goal.returns
returns g c =
    let fact : UnitFact = record {
      log = c.fact_of.result.log;
      position = c.fact_of.result.position;
      time = c.fact_of.result.time;
      seconds = c.seconds_of.result;
      bytes = c.fact_of.result.bytes;
      thread = c.fact_of.result.thread;
      rows = c.in_ok-rows.rows;
    } in
    let same : fact
    ≡ unit_fact c.args.number (source_place c.args.source.now) (facts_told c.args.unit.now) (seconds_from c.args.unit.now.time (index_groups c.args.index.now))
    (sum_rows (chosen (choice_value c.args.choice.now) (counts_of (groups (index_bytes c.args.index.now) (index_selection c.args.index.now))))) = λ j. record {
      log = (c.fact_of.ensures j).log;
      position = (c.fact_of.ensures j).position;
      time = (c.fact_of.ensures j).time;
      seconds = c.seconds_of.ensures j;
      bytes = (c.fact_of.ensures j).bytes;
      thread = (c.fact_of.ensures j).thread;
      rows = c.in_ok-rows.ensures.rows j;
    } in
    record {
      is = c.in_ok-add_unit.ensures.said ∙ ap₂ (λ (u : UnitFact) (s : Said). with_unit u s) same c.in_ok-rows.ensures.said.is;
      whole = λ w. c.in_ok-add_unit.ensures.whole (c.in_ok-rows.ensures.said.whole w);
    }
