use Rattle.std.proofs.Common.{◌≡◌, ◌&&◌}
use Rattle.std.specs.List.{list_any}
use Rattle.blog_event.specs.code.LogView.{log_bytes}
use Rattle.blog_request.specs.Wanted.{is_before}
use Rattle.blog_trans.specs.Selection.{selection_of}
use Rattle.blog_units.specs.Units.{Facts}
use Rattle.blog_units.specs.code.UnitsView.{units_left}
use Rattle.undo_run.specs.Units.{has_unit_in, is_at}
use Rattle.undo_run.proofs.missing.has_unit_in.Given as goal

-- one of those that are left is there where one of all is
abbrev pub invariant-loop-unit : goal.invariant-loop-unit
invariant-loop-unit l = record {
  next : (goal.iterator-loop-unit).can_next l.unit-iterator;
  finite : (goal.iterator-loop-unit).is_finite l.unit-iterator;
  left : list_any (λ (u : Facts). is_before u.start l.inside.stop && is_at (log_bytes l.log) u l.pos) (units_left l.unit-iterator) ≡ has_unit_in (selection_of l.inside) (log_bytes l.log) l.pos;
}
