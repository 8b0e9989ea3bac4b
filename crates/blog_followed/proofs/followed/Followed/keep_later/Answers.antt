use Rattle.std.proofs.Common.{true, ap, ◌∙◌}
use Rattle.blog_event.specs.code.LogView.{log_bytes}
use Rattle.blog_later.specs.Later.{changes_in, unit_changes}
use Rattle.blog_units.specs.code.UnitsView.{facts_told, units_left}
use Rattle.blog_followed.proofs.Remaining.{remains-on}
use Rattle.blog_followed.proofs.followed.Followed.keep_later.Goals as goal

pub loop-unit-preserved : goal.loop-unit-preserved
loop-unit-preserved g c =
    let bytes = log_bytes c.args.log.now in
    let here = ap log_bytes (c.in-Some.ensures.steps.of_log ∙ c.loop-unit.invariant.log) in
    record {
      next = tt;
      finite = tt;
      log = c.in-Some.ensures.steps.log ∙ c.loop-unit.invariant.log;
      remains = remains-on true c.args.left.now _ (changes_in bytes (units_left c.loop-unit.unit-iterator)) (unit_changes bytes (facts_told c.in-Some.unit)) (changes_in bytes (units_left c.next.new.self))
          c.args.self.now c.loop-unit.self _ (ap (changes_in bytes) c.in-Some.ensures.steps.first) (rw here at c.in_ok-follow_unit.ensures) c.loop-unit.invariant.remains;
    }
