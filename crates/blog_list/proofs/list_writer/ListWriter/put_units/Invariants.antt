use Rattle.std.proofs.Common.{◌≡◌, map}
use Rattle.std.specs.Prelude.{option_copied}
use Rattle.blog_event.specs.code.LogView.{log_bytes}
use Rattle.blog_device.specs.Watched.{device_of, has_failed}
use Rattle.blog_source.specs.code.SourceView.{damaged_of}
use Rattle.blog_units.specs.Units.{facts_of, units}
use Rattle.blog_units.specs.code.UnitsView.{units_left, units_log}
use Rattle.blog_list.specs.Shown.{log_list, passed_over_of}
use Rattle.blog_list.specs.code.Told.{source_place}
use Rattle.blog_list.specs.code.WriterView.{sheet_of, sorting_of}
use Rattle.blog_list.proofs.Ending.{IsPassing}
use Rattle.blog_list.proofs.Holding.{IsHolding}
use Rattle.blog_list.proofs.OnTheWay.{IsCounting, listed_of}
use Rattle.blog_list.proofs.list_writer.ListWriter.put_units.Given as goal

-- no write has failed; the lines of the wanted units so far are written or held, in turn or for sorting; the units so far are counted; and these are they
abbrev pub invariant-loop-unit : goal.invariant-loop-unit
invariant-loop-unit g l = record {
  next : (goal.iterator-loop-unit g).can_next l.unit-iterator;
  finite : (goal.iterator-loop-unit g).is_finite l.unit-iterator;
  same : units_log l.unit-iterator ≡ l.log;
  mark : has_failed l.writer ≡ has_failed l.fn.writer;
  list : IsHolding (sorting_of l.self) (sheet_of l.self l.fn.text.items)
      (log_list (option_copied l.name) (sorting_of l.self) l.wanted (log_bytes l.log) (source_place l.source) (damaged_of l.source))
      (listed_of l.wanted (log_bytes l.log) (source_place l.source) (units_left l.unit-iterator))
      (g.O.Write.contents (device_of l.fn.writer)) (g.O.Write.contents (device_of l.writer)) l.text.items l.ranking;
  count : IsCounting l.fn.totals l.totals
      (log_list (option_copied l.name) (sorting_of l.self) l.wanted (log_bytes l.log) (source_place l.source) (damaged_of l.source))
      (listed_of l.wanted (log_bytes l.log) (source_place l.source) (units_left l.unit-iterator)) (passed_over_of l.wanted (log_bytes l.log) (units_left l.unit-iterator));
  passing : IsPassing (map facts_of (units (log_bytes l.log))) l.wanted.stop l.whole (units_left l.unit-iterator);
}
