use Rattle.std.proofs.Common.{◌≡◌, Bool, false, map}
use Rattle.blog_event.specs.code.LogView.{log_bytes}
use Rattle.blog_later.specs.Later.{later_units}
use Rattle.blog_units.specs.Units.{Facts}
use Rattle.blog_units.specs.code.UnitsView.{units_left, units_log}
use Rattle.blog_followed.specs.code.FollowedView.{kept_told}
use Rattle.blog_followed.proofs.Remaining.{Remains}
use Rattle.blog_followed.proofs.Waiting.{waiting}
use Rattle.blog_followed.proofs.followed.Followed.follow_among.Given as goal

-- the units are left that the iterator still gives, with their marks
abbrev pub invariant-loop-unit : goal.invariant-loop-unit
invariant-loop-unit g l = record {
  next : (goal.iterator-loop-unit g).can_next l.unit-iterator;
  finite : (goal.iterator-loop-unit g).is_finite l.unit-iterator;
  log : units_log l.unit-iterator ≡ l.log;
  kept : kept_told l.self ≡ kept_told l.fn.self;
  marked : (p : Facts → Bool) → l.chosen ≡ map p (later_units (log_bytes l.log) l.from) → l.marks ≡ map p (units_left l.unit-iterator);
  remains : (p : Facts → Bool) → l.chosen ≡ map p (later_units (log_bytes l.log) l.from)
      → Remains false l.left (waiting false p (log_bytes l.log) (later_units (log_bytes l.log) l.from)) (waiting l.has_begun p (log_bytes l.log) (units_left l.unit-iterator)) l.fn.self l.self;
}
