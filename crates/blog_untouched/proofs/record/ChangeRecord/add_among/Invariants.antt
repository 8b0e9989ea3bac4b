use Rattle.std.proofs.Common.{◌≡◌, ◌++◌, Bool, length, map}
use Rattle.blog_event.specs.code.LogView.{log_bytes}
use Rattle.blog_later.specs.Later.{later_units}
use Rattle.blog_later.specs.code.LookedView.{left_before}
use Rattle.blog_trans.specs.Selection.{selection_of}
use Rattle.blog_units.specs.Units.{Facts}
use Rattle.blog_units.specs.code.UnitsView.{units_left, units_log}
use Rattle.blog_untouched.specs.Steps.{rows_in, taken_in, unit_step}
use Rattle.blog_untouched.proofs.record.ChangeRecord.add_among.Given as goal

-- the units are left that the iterator still gives, with their marks
abbrev pub invariant-loop-unit : goal.invariant-loop-unit
invariant-loop-unit g l = record {
  next : (goal.iterator-loop-unit g).can_next l.unit-iterator;
  finite : (goal.iterator-loop-unit g).is_finite l.unit-iterator;
  log : units_log l.unit-iterator ≡ l.log;
  marked : (p : Facts → Bool) → l.chosen ≡ map p (later_units (log_bytes l.log) l.from) → l.marks ≡ map p (units_left l.unit-iterator);
  put : (p : Facts → Bool) → l.chosen ≡ map p (later_units (log_bytes l.log) l.from)
      → (l.self.rows.items ++ rows_in (map (unit_step p (selection_of l.inside) (log_bytes l.log)) (units_left l.unit-iterator))
      ≡ l.fn.self.rows.items ++ rows_in (map (unit_step p (selection_of l.inside) (log_bytes l.log)) (later_units (log_bytes l.log) l.from)))
      × (l.self.taken.items ++ taken_in (λ k. (left_before l.left k).rows) l.lists (length l.self.rows.items) (map (unit_step p (selection_of l.inside) (log_bytes l.log)) (units_left l.unit-iterator))
      ≡ l.fn.self.taken.items ++ taken_in (λ k. (left_before l.left k).rows) 0 (length l.fn.self.rows.items) (map (unit_step p (selection_of l.inside) (log_bytes l.log)) (later_units (log_bytes l.log) l.from)));
}
