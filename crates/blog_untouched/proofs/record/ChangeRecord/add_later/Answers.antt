use Rattle.std.proofs.Common.{◌≡◌, ◌++◌, ap, ◌∙◌}
use Rattle.blog_event.specs.code.LogView.{log_bytes}
use Rattle.blog_later.specs.code.LookedView.{left_before}
use Rattle.blog_units.specs.code.UnitsView.{facts_told, units_left, units_log}
use Rattle.blog_untouched.proofs.PutRecorded.{unit-more}
use Rattle.blog_untouched.proofs.record.ChangeRecord.add_later.Goals as goal

pub loop-unit-preserved : goal.loop-unit-preserved
loop-unit-preserved g c =
    let here = ap log_bytes (c.in-Some.ensures.steps.of_log ∙ c.loop-unit.invariant.log) in
    record {
      next = tt;
      finite = tt;
      log = c.in-Some.ensures.steps.log ∙ c.loop-unit.invariant.log;
      before = c.loop-unit.invariant.before;
      rows = c.loop-unit.invariant.rows;
      put = unit-more c.len-before.result (left_before c.args.left.now c.args.lists).rows (log_bytes c.args.log.now) (facts_told c.in-Some.unit) _ _ c.loop-unit.self.taken.items _ _ c.in-Some.ensures.steps.first
          (rw here at c.in_ok-put_other.ensures) c.loop-unit.invariant.put;
    }
