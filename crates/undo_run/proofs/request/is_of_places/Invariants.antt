use Rattle.std.proofs.Common.{◌≡◌, length}
use Rattle.std.specs.List.{list_any}
use Rattle.blog_event.specs.code.LogView.{log_bytes}
use Rattle.blog_units.specs.code.UnitsView.{facts_told}
use Rattle.undo_run.specs.Units.{is_at}
use Rattle.undo_run.proofs.request.is_of_places.Given as goal

-- the unit is at one of those that are left where it is at one of all
abbrev pub invariant-places : goal.invariant-places
invariant-places l = list_any (is_at (log_bytes l.log) (facts_told l.unit)) l.rest ≡ list_any (is_at (log_bytes l.log) (facts_told l.unit)) l.at

abbrev pub decreases-places : goal.decreases-places
decreases-places l = length l.rest
