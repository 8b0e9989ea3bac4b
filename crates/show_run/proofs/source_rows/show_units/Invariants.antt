use Rattle.std.proofs.Common.{◌≡◌, ℕ, List, map, Option}
use Rattle.blog_choice.specs.code.Views.{choice_value}
use Rattle.blog_device.specs.Watched.{device_of}
use Rattle.blog_event.specs.code.LogView.{log_bytes}
use Rattle.blog_list.specs.Shown.{last_whole}
use Rattle.blog_list.specs.code.Told.{source_place}
use Rattle.blog_source.specs.Places.{position_of}
use Rattle.blog_source.specs.code.SourceView.{log_of}
use Rattle.blog_units.specs.Units.{facts_of, units}
use Rattle.blog_units.specs.code.UnitsView.{units_left, units_log}
use Rattle.show_run.specs.Shown.{HasShown, shown_among}
use Rattle.show_run.proofs.Ending.{ending}
use Rattle.show_run.proofs.source_rows.show_units.Given as goal

-- what shows the units that are left ends what shows all
abbrev pub invariant-loop-unit : goal.invariant-loop-unit
invariant-loop-unit g l = record {
  ends : ending l.whole l.wanted.stop (units_left l.unit-iterator) ≡ last_whole l.wanted.stop (map facts_of (units (log_bytes l.log)));
  next : (goal.iterator-loop-unit g).can_next l.unit-iterator;
  finite : (goal.iterator-loop-unit g).is_finite l.unit-iterator;
  same : units_log l.unit-iterator ≡ l.log;
  held : (has : Option (List ℕ)) (new : List ℕ)
      → HasShown l.style.form (choice_value l.wanted.choice) (source_place l.source) (log_bytes l.log)
      (shown_among l.wanted (map (position_of (log_of l.source)) l.places) (log_bytes l.log) (units_left l.unit-iterator)) (g.W.Write.contents (device_of l.writer)) has l.page.text.items new
      → HasShown l.style.form (choice_value l.wanted.choice) (source_place l.source) (log_bytes l.log)
      (shown_among l.wanted (map (position_of (log_of l.source)) l.places) (log_bytes l.log) (map facts_of (units (log_bytes l.log)))) (g.W.Write.contents (device_of l.fn.writer)) has l.fn.page.text.items new;
}
