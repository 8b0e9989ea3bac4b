use Rattle.std.proofs.Common.{◌≡◌, ◌&&◌, ℕ, List, drop, map}
use Rattle.std.specs.Prelude.{nat_le, nat_lt}
use Rattle.std.specs.List.{list_any}
use Rattle.blog_source.specs.Places.{position_of}
use Rattle.blog_source.specs.code.SourceView.{log_of}
use Rattle.show_run.proofs.turns.is_at.Given as goal

-- the unit has none of the positions so far
abbrev pub invariant-loop-place : goal.invariant-loop-place
invariant-loop-place g l = list_any (λ pos. nat_le l.unit.start pos && nat_lt pos l.unit.stop) (map (position_of (log_of l.source)) l.places)
    ≡ list_any (λ pos. nat_le l.unit.start pos && nat_lt pos l.unit.stop) (map (position_of (log_of l.source)) (drop l.place-index l.places))
